pub mod Calls
pub mod Counting
pub mod Hands
pub mod Keeping
