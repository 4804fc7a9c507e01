pub mod Faults
pub mod Outcomes
pub mod Places
pub mod Reads
