mod Examples
pub mod CutLemmas
pub mod EventLemmas
pub mod FaultLemmas
pub mod FileLemmas
pub mod HeadLemmas
pub mod LineLemmas
pub mod NumberLemmas
pub mod RowLemmas
pub mod RowsTheorems
pub mod SplitLemmas
pub mod StepLemmas
pub mod TextLemmas
pub mod VerdictLemmas
pub mod WordLemmas
pub mod WriteLemmas
pub mod WrittenLemmas
