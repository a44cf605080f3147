-- Proofs about the functions of src/, and the laws.
pub mod Cut
pub mod Laws
pub mod Turns
