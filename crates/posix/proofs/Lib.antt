-- The proofs of this crate.
pub mod Laws
pub mod Small
pub mod Turned
pub mod Step
pub mod Walk
pub mod Write
pub mod Read
pub mod Theorem
pub mod Example
