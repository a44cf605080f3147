-- From what is left of each part of what is lent to the step of every sound table.
pub mod Releasing
pub mod Rejecting
pub mod Carrying
mod Naming
pub mod Owners
pub mod Taking
pub mod Turned
pub mod Parts
pub mod Settling
pub mod Holding
pub mod Wording
pub mod Replies
pub mod Stepping
pub mod Behind
pub mod Calling
pub mod Telling
pub mod Fitting
pub mod Raw
pub mod Arriving
