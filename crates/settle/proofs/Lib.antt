-- What the proofs of a piece's end, and those of an answer and of a flush result, share.
pub mod Settling
pub mod Finishing
