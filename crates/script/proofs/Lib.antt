-- Laws of the reader of a script.
pub mod Piece
pub mod Stretch
pub mod Going
pub mod Meaning
pub mod Counts
pub mod Kept
pub mod Byte
pub mod Script
