pub mod FaultLemmas
pub mod StageLemmas
pub mod VerdictLemmas
