-- Examples that meet the suppositions of demands 2 and 3, and of Kept.
pub mod Quiet
pub mod Acts
pub mod Demand2Example
pub mod Beside
pub mod Demand3Computed
pub mod Demand3Example
pub mod OrdersSupposed
pub mod Overlapped
