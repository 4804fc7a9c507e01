-- What the contracts of the top call speak of.
pub mod Causes
pub mod Commands
pub mod Deeds
pub mod Endings
pub mod Headline
pub mod Orders
pub mod Outputs
pub mod Programs
pub mod Putting
pub mod Refusals
