-- What a reader has to believe, in reading order
pub mod Blank
pub mod Class
pub mod Symbol
pub mod NamePart
pub mod Mark
pub mod Number
pub mod Amount
pub mod Style
pub mod Price
pub mod Cost
pub mod Printed
pub mod AmountText
pub mod PriceText
pub mod Growth
pub mod Cause
-- the same by functions, for laws: the clauses of the calls that read tie each to its relation
pub mod Cutting
pub mod Reading
pub mod PriceReading
pub mod Sampling
-- What mirrors code, for private clauses: nobody has to believe it
pub mod Views
pub mod NumberText
