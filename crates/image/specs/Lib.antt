-- The image's words for its code.
pub mod Largest
