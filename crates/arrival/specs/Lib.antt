-- What arrives, what becomes of the operation with it, what is left of each part of what is lent, and what a taking leaves.
pub mod Carried
pub mod UnderWay
pub mod Taking
pub mod Arrived
pub mod Lent
