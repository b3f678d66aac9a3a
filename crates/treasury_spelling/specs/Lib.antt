-- What a reader has to believe, in reading order
pub mod Known
pub mod Spelling
pub mod Words
-- What mirrors code, for private clauses: nobody has to believe it
pub mod Knowing
