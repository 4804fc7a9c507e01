pub mod FirstLemmas
pub mod ItemLemmas
pub mod SortLemmas
