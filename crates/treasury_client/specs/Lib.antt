-- What a reader has to believe, in reading order
pub mod Sending
pub mod Reply
-- What mirrors code, for private clauses: nobody has to believe it
pub mod Parts
pub mod Heard
