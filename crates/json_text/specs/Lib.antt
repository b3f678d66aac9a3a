-- What a reader has to believe, in reading order
pub mod JsonText
pub mod ReadBack
pub mod Members
-- What mirrors code, for private clauses: nobody has to believe it
pub mod Growing
