pub mod ReadLemmas
pub mod SampleLemmas
pub mod FaultLemmas
pub mod ReaderLemmas
