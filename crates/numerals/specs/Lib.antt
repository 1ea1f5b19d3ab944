-- A number that is read a byte at a time.
pub mod Fed
