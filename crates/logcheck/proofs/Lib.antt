-- Laws of logcheck's loop, and of what it says.
pub mod Said
pub mod Ways
pub mod Right
