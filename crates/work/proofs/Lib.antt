-- What the functions' proofs share.
pub mod Joined
pub mod Sized
pub mod Listed
pub mod Masked
pub mod Whole
