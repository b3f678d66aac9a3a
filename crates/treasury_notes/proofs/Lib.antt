pub mod NamedAccountLemmas
pub mod OpenYearLemmas
pub mod DryRunLemmas
