-- Laws on what is written.
pub mod Laws
