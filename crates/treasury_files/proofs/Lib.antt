pub mod LeftLemmas
pub mod StartedLemmas
pub mod CountsLemmas
pub mod MadeLemmas
pub mod UnservedLemmas
