pub mod Bytes
pub mod Errors
pub mod Places
pub mod Reading
pub mod Spellings
pub mod Terms
pub mod Tokens
