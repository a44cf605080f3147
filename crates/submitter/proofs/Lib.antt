-- What is held of a host's table.
pub mod Holding
