-- Laws of a replay session.
pub mod Shorter
pub mod Calls
pub mod Ready
pub mod Due
pub mod Ways
pub mod Playing
pub mod Whole
