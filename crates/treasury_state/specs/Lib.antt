-- What a reader has to believe, in reading order
pub mod Federation
pub mod Seen
pub mod Mark
pub mod Index
pub mod Transfer
pub mod Joined
pub mod Good
pub mod Fair
pub mod Rows
-- What mirrors code, for private clauses: nobody has to believe it
pub mod Kept
pub mod Room
