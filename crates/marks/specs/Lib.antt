-- The masks of open entries in the working slice.
pub mod Masks
