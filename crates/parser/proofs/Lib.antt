-- What the proofs of this crate and of those above it share.
pub mod Table
-- What the proofs of this crate share.
pub mod Laws
pub mod Words
