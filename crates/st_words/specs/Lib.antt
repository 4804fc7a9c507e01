pub mod Accepted
pub mod Building
pub mod Command
pub mod Numbers
