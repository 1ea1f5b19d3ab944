-- Laws of the check.
pub mod Ways
pub mod Scan
pub mod Whole
