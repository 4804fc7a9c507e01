pub mod Placeless
pub mod Trees
