-- What a reader has to believe, in reading order
pub mod Tables
pub mod Rows
pub mod Kept
pub mod Creating
pub mod Opening
pub mod Upgrading
pub mod Judging
pub mod Order
-- What mirrors code, for private clauses: nobody has to believe it
pub mod Kinds
pub mod Reading
