-- What mirrors code, for private clauses: nobody has to believe it
pub mod Drafted
pub mod Judged
