-- Laws of replay's loop.
pub mod Ways
pub mod Listed
