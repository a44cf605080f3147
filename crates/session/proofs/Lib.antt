-- Proofs about the functions of src/, and the laws.
pub mod Starting
pub mod Laws
-- Proofs about the functions of src/.
pub mod Listed
pub mod Places
-- Proofs about the functions of src/, and what those of the module table share with them.
pub mod Doing
pub mod Lines
pub mod BeforeLines
pub mod PlannedLines
pub mod StartLines
pub mod Refusals
pub mod Parts
pub mod Stages
pub mod Turns
