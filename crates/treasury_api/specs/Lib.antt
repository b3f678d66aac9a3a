-- What a reader has to believe, in reading order
pub mod Transcript
pub mod RunEnd
pub mod Asked
pub mod Report
pub mod Lists
pub mod Answer
pub mod Step
pub mod History
pub mod Left
pub mod Replied
pub mod OneRequest
pub mod Kept
pub mod WebReply
pub mod JsonReply
pub mod Beside
pub mod BranchCommand
pub mod Web
-- What mirrors code, for private clauses: nobody has to believe it
pub mod Serving
pub mod Served
pub mod WebServing
