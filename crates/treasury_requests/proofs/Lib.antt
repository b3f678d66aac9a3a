pub mod RequestLemmas
pub mod TableLemmas
pub mod DayLemmas
pub mod RequiredLemmas
pub mod WorkedReports
pub mod WorkedDryRuns
pub mod FaultLemmas
pub mod WorkedFaults
