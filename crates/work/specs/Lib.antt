-- The parts of the working slice, for its code.
pub mod Parts
pub mod Passes
