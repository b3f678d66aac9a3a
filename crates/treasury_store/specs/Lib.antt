-- What a reader has to believe, in reading order
pub mod Shown
pub mod Numbers
pub mod Store
pub mod Treasury
pub mod Left
-- What mirrors code, for private clauses: nobody has to believe it
pub mod Changes
