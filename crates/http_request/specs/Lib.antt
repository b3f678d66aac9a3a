-- What a reader has to believe, in reading order
pub mod Head
pub mod Path
pub mod Query
pub mod Routes
pub mod Fields
pub mod Length
pub mod Foreign
pub mod Accept
pub mod Spaces
pub mod Call
-- What mirrors code, for private clauses: nobody has to believe it
pub mod Found
pub mod Body
pub mod Rows
pub mod Calling
pub mod Ending
