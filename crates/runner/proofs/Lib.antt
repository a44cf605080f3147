-- Proofs about the functions of src/.
pub mod Lines
pub mod Turns
