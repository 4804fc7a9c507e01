mod ExtendLemmas
pub mod Examples
pub mod FollowLemmas
pub mod KindLemmas
pub mod LoopLemmas
pub mod MeansLemmas
pub mod RightLemmas
pub mod TypedCourses
pub mod TypedJournals
pub mod TypedStatements
