-- The definitions that contracts cite.
pub mod Format
pub mod Lines
pub mod Reading
pub mod Rows
pub mod Spaced
pub mod Terms
pub mod Words
