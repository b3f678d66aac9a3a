-- What a reader has to believe, in reading order
pub mod Word
pub mod Spoken
pub mod At
pub mod OverFile
pub mod Serving
pub mod CutOff
-- What mirrors code, for private clauses: nobody has to believe it
pub mod OverFileParts
pub mod ServingParts
