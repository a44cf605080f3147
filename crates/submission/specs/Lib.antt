-- What is promised of the questions, of the verdict and of what it leaves.
pub mod Asks
pub mod Decided
pub mod Touched
