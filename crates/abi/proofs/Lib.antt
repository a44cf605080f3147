-- Proofs about the definitions of specs/, which the functions' proofs cite.
pub mod Laws
-- What the proofs of the functions share.
pub mod Words
