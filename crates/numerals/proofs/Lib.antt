-- Laws of numbers in groups.
pub mod Weights
pub mod Digits
pub mod Groups
pub mod Read
pub mod Scanning
pub mod Round
