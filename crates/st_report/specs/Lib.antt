-- The definitions that contracts cite.
pub mod Checks
pub mod Counts
pub mod Json
pub mod JsonValue
pub mod Report
pub mod Status
