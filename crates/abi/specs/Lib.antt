pub mod RowWords
pub mod Asked
pub mod ReplyWords
