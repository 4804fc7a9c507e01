pub mod Courses
pub mod Laws
pub mod Meaning
pub mod Numbers
pub mod Plain
pub mod Safe
pub mod Turns
