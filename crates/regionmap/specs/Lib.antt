-- The map, how it lies in words, what the code finds there, and its laws.
pub mod Map
pub mod Words
pub mod Found
pub mod Laws

-- This crate states nothing of its own: its contracts cite the map.
