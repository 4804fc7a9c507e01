pub mod Kinds
pub mod Terms
pub mod Views
pub mod WellFormed
