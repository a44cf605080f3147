-- What proofs over lent rows and lent counts use, here and in the crates above: the claims, then the lookups, then what a host holds.
pub mod Claims
pub mod Turning
pub mod Looking
pub mod Held
