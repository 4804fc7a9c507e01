-- The lemmas; the public ones serve the crates above.
pub mod AlikeLemmas
mod AllLemmas
pub mod AmongLemmas
mod CellLemmas
pub mod ChargeLemmas
pub mod CountLemmas
mod Examples
pub mod ExtendsLemmas
pub mod HeapLemmas
pub mod JudgeLemmas
pub mod KeptLemmas
pub mod LaunchLemmas
mod LegalExamples
pub mod LegalEvents
pub mod LegalLemmas
mod LimitExamples
pub mod PoolLemmas
mod ReplayLemmas
pub mod RetireLemmas
pub mod RowLemmas
mod ShapeLemmas
pub mod SoundChecks
pub mod SoundCopies
pub mod SoundHeap
pub mod SoundLemmas
pub mod SoundRows
pub mod SoundTypes
pub mod WordLemmas
pub mod WorldLemmas
