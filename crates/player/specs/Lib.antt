-- What the parts of replay's loop ensure.
pub mod Went
