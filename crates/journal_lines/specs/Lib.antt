-- What a reader has to believe, in reading order
pub mod Lines
pub mod LinesLeft
pub mod Blank
pub mod LineKind
pub mod Comment
pub mod Date
pub mod Number
pub mod Header
pub mod HeaderView
pub mod HeaderForm
pub mod HeaderFaults
pub mod Utf8
pub mod Printed
pub mod AccountName
pub mod Tag
pub mod TagsLeft
-- the same by a function, for laws: the clauses of `read_date` tie it to its relation
pub mod DateReading
-- What mirrors code, for private clauses: nobody has to believe it
pub mod HeaderReading
pub mod HeaderCutView
