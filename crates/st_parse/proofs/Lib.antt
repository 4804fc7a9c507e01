pub mod CursorLemmas
pub mod EndLemmas
pub mod FaultLemmas
pub mod NestedLemmas
pub mod OutcomeLemmas
pub mod Ranks
pub mod ReadsLemmas
pub mod Turns
