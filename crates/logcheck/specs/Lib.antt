-- What the parts of logcheck's loop ensure.
pub mod Sought
