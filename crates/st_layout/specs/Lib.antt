pub mod Layout
pub mod Limits
pub mod Names
pub mod Packed
