-- Laws of the masks.
pub mod Bits
pub mod Made
pub mod Steps
