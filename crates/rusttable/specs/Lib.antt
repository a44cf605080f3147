pub mod Table
pub mod RegionMap
pub mod Functions
pub mod Domain
pub mod AsStep
pub mod Histories
pub mod OffBlock
