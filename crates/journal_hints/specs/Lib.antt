-- What a reader has to believe, in reading order
pub mod Numbered
pub mod SourceLine
pub mod Samples
pub mod LeftOver
pub mod ExactProduct
pub mod Listed
pub mod OddAmount
pub mod OddNotes
