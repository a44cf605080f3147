-- Proofs about the functions of src/.
pub mod Bytes
pub mod Rows
pub mod Loose
pub mod May
