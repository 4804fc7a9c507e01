pub mod CheckLemmas
pub mod PieceLemmas
pub mod JsonLemmas
pub mod ValueLemmas
