-- From the words that a mark or a poison changes to the state, and to the calls as a whole.
pub mod Words
pub mod Parts
pub mod Marks
pub mod Regions
pub mod Calling
pub mod Setting
pub mod Raw
pub mod Laws
pub mod Poisoning
