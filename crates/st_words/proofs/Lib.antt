pub mod BuildingLemmas
pub mod NumberLemmas
pub mod ReadingLemmas
