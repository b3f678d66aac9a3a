pub mod BodyLemmas
pub mod ReplyLemmas
pub mod HeardLemmas
