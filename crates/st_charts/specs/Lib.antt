pub mod Charts
pub mod Checks
pub mod Reads
pub mod Texts
