-- What a reader has to believe, in reading order
pub mod Imported
pub mod NewAccount
pub mod FarDays
pub mod Edited
pub mod DayPlaces
pub mod BroughtAccounts
pub mod Dated
pub mod Marks
pub mod OtherBranch
pub mod ImportNotes
