pub mod Codes
pub mod Trace
pub mod Fields
