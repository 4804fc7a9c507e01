pub mod Phases
pub mod Later
pub mod Exclusion
pub mod Others
