pub mod Runner
pub mod Running
