pub mod ReadingLemmas
pub mod NumberedLemmas
pub mod TransferLemmas
pub mod FailureLemmas
pub mod RefusedLemmas
pub mod ToldLemmas
