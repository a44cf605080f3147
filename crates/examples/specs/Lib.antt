pub mod Acts
pub mod Demand3Lists
pub mod OrdersSupposed
pub mod Overlapped
