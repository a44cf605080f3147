-- What becomes of an operation, as a value, against step's rules.
pub mod Finished
