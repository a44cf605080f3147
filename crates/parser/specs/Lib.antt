pub mod Values
pub mod Said
pub mod Asks
pub mod Laws
pub mod Openings
