pub mod TotalLemmas
pub mod FewLemmas
pub mod MentionLemmas
pub mod TallyLemmas
pub mod PlaceLemmas
pub mod WithinLemmas
