-- A submission as a whole, and a call with other lengths than the opening's.
pub mod Touching
pub mod QueuecoreTouching
