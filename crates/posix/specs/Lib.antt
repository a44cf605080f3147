pub mod Posix
pub mod Transfer
