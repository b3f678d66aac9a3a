-- What a reader has to believe, in reading order
pub mod Said
pub mod Sentence
pub mod RequestFaults
pub mod Pieces
pub mod Parts
pub mod Printed
pub mod Unasked
