pub mod RunLemmas
pub mod OverFileLemmas
pub mod ToldLemmas
pub mod FileLemmas
pub mod ServingLemmas
pub mod UntakenLemmas
