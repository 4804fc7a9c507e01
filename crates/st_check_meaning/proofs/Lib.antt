pub mod CheckExamples
pub mod CheckLemmas
pub mod CourseLemmas
pub mod FollowedLemmas
pub mod SafeLemmas
pub mod TermExamples
pub mod TurnLemmas
