-- What a reader has to believe, in reading order
pub mod Words
pub mod Keys
pub mod Given
pub mod Request
pub mod RequestFault
pub mod Required
-- What mirrors code, for private clauses: nobody has to believe it
pub mod Lacking
