-- Proofs about the definitions of specs/.
pub mod Rules
pub mod Opened
pub mod Maps
pub mod Laws
pub mod Completions
