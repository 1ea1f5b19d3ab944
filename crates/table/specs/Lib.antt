-- What the functions of the check count on, what they count and what they hand on.
pub mod Shape
pub mod Frame
pub mod Entries
pub mod Told
