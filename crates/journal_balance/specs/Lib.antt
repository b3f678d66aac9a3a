-- What a reader has to believe, in reading order
pub mod Conversion
pub mod Legs
pub mod Plain
