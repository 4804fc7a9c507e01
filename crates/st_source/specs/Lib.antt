-- The definitions that contracts cite.
pub mod Accepted
pub mod Lines
pub mod Refused
pub mod Stages
pub mod Terms
