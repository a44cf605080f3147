pub mod Writes
pub mod MayFill
