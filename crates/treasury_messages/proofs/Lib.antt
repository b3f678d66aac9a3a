pub mod PieceLemmas
pub mod PrintedLemmas
