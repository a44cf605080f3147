-- The laws of the map, and what they and the crate runs share: a list of runs, extents on the card.
pub mod RunsFacts
mod Extents
pub mod Laws
-- What the proofs of this crate share: the words of a map.
mod Found
