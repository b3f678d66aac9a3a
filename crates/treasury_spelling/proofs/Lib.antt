mod KnownLemmas
pub mod WordLemmas
pub mod WorkedWords
