-- What the proofs of this crate and of those above it share.
pub mod Decimal
-- What the proofs of this crate share.
pub mod Bits
pub mod Numbers
-- Proofs about the functions of src/.
pub mod Listing
