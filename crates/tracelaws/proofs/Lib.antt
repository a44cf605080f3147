-- The laws.
pub mod Filling
pub mod Tables
pub mod Laws
pub mod Names
