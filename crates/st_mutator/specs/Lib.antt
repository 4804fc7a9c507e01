pub mod Laying
pub mod Mutators
pub mod Outcomes
pub mod Running
pub mod Stacked
pub mod Standing
