-- What a reader has to believe, in reading order
pub mod SampleNote
pub mod NamedAccount
pub mod OpenYear
pub mod Days
pub mod ReportNotes
pub mod RequestNotes
pub mod DryRun
