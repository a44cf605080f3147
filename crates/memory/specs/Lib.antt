-- What of a region, of the store's poison and of a piece is read from the store's words, and whether a later call lends as much as the opening.
pub mod Lengths
pub mod Live
pub mod Piece
pub mod Words
