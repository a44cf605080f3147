-- Where a region's words stand, that the state's regions are those in the words, and that the piece found there is the map's.
pub mod Places
pub mod Laws
pub mod Found
