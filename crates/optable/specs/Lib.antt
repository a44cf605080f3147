-- The counts, the rows and what is found in them after a call, and what a call as a whole leaves.
pub mod Counted
pub mod Claimed
pub mod Called
pub mod Looked
pub mod Held
