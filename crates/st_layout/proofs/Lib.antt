pub mod Bounds
pub mod Distinct
mod Examples
