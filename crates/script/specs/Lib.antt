-- The reader of a script: what a byte does, and what a piece of the input does.
pub mod Take
pub mod Advance
