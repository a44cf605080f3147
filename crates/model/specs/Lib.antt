pub mod State
pub mod Opening
pub mod Memory
pub mod Meaning
pub mod Laws
