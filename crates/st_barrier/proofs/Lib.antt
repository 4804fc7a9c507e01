pub mod CountingLemmas
pub mod HandLemmas
pub mod EventLemmas
pub mod NeedLemmas
pub mod KeepLemmas
