-- The equations of lists that the steps of a turn in place come down to, and the laws of turns and stretches.
pub mod Parts
pub mod ShiftParts
pub mod RotationParts
pub mod Laws
