-- A turn of bytes and its laws, and the steps in which the code makes one.
pub mod Exchange
pub mod Turn
pub mod TurnLaws
