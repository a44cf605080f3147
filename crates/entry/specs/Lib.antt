pub mod WordCalls
pub mod WholeRows
pub mod Entry
pub mod Settings
pub mod Holding
pub mod Lent
