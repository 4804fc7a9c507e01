pub mod Lines
pub mod Sites
pub mod Spaced
pub mod Words
