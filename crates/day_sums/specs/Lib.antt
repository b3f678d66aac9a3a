-- What a reader has to believe, in reading order
pub mod Period
pub mod Sums
pub mod Spots
pub mod Points
pub mod Blocks
pub mod Row
