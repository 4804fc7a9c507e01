pub mod ExclusionLemmas
pub mod OtherLemmas
pub mod LaterLemmas
pub mod StepLemmas
