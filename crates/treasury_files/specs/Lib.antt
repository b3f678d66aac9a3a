-- What a reader has to believe, in reading order
pub mod Left
pub mod InFile
pub mod Started
pub mod Look
pub mod Counts
-- What mirrors code, for private clauses: nobody has to believe it
pub mod Leaving
pub mod Made
