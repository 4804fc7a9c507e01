pub mod ApartLemmas
pub mod DriveLemmas
