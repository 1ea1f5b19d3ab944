-- What checking a recorded listing comes to.
pub mod Scan
pub mod Check
