-- The places of a ring, the words of a completion, and the laws of the queue.
pub mod Places
pub mod Laws
pub mod Words
