-- What the functions' proofs share.
pub mod Loops
pub mod Config
pub mod Filled
pub mod Tally
pub mod Listed
pub mod Holders
pub mod Named
pub mod Record
pub mod Alive
pub mod Owned
pub mod Object
pub mod Formed
pub mod Told
pub mod Begun
