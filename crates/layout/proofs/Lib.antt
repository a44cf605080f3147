-- The laws of the block, and what proofs of other crates use too: the steps between a Bool and a fact, and lists cut past their end.
pub mod Tests
pub mod Laws
pub mod Cuts
