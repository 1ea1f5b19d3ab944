-- What is written into a lent buffer.
pub mod Wrote
