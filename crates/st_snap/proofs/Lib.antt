mod AnyLemmas
mod ForwardLemmas
mod HeaderLemmas
mod HeldLemmas
mod HoldsLemmas
mod LaneLemmas
pub mod ListLemmas
mod PoolLemmas
mod ReadLemmas
mod RepresentsChange
mod RepresentsSteps
mod RowLemmas
pub mod StayLemmas
mod TableLemmas
mod TargetLemmas
