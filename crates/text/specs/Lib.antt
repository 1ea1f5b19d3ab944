-- The errors' names, and the room of a line.
pub mod Names
pub mod Room
