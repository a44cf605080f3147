-- From what lies in the words to what the questions and the verdict say of a sound table.
pub mod Holder
pub mod Asking
pub mod Deciding
