pub mod SumLemmas
pub mod LateLemmas
