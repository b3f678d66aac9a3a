-- What a reader has to believe, in reading order
pub mod Choice
pub mod Closing
pub mod Fits
pub mod Step
pub mod Run
pub mod Closed
-- What mirrors code, for private clauses: nobody has to believe it
pub mod Counted
pub mod Judged
