pub mod CountLemmas
pub mod GrowthLemmas
pub mod TakingLemmas
