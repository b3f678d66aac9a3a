-- What a reader has to believe, in reading order
pub mod Reading
pub mod Failure
pub mod HeldTransfer
pub mod Lock
pub mod Held
pub mod Closing
pub mod Uneven
pub mod Refused
pub mod Told
