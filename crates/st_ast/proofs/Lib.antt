mod Examples
pub mod IfLemmas
pub mod WordEquations
pub mod WrittenLemmas
