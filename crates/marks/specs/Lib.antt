-- The store's words after a mark is set or the store is poisoned.
pub mod Marks
