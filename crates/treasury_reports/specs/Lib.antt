-- What a reader has to believe, in reading order
pub mod Columns
pub mod Rows
pub mod BalanceReport
pub mod RegisterReport
pub mod TransitReport
pub mod JournalReport
pub mod BranchesReport
pub mod CommoditiesReport
pub mod AccountsReport
pub mod TransfersReport
-- What mirrors code, for private clauses: nobody has to believe it
pub mod Lent
pub mod Written
