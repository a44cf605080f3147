-- What the proofs of the functions share.
pub mod Calling
pub mod Opening
pub mod Fitting
pub mod Each
pub mod EntryOpening
pub mod Forms
pub mod Holding
