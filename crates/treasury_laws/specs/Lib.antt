-- What a reader has to believe, in reading order
pub mod Sound
pub mod History
pub mod Headline
