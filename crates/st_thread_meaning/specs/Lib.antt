pub mod Deeds
pub mod Laws
pub mod Right
pub mod Statements
pub mod Threads
pub mod Typed
