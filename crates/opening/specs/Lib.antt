-- What the loops over a plan have left to look at, and what an opening leaves and replies; the rules are the model's.
pub mod Opened
pub mod Plans
pub mod Prepared
