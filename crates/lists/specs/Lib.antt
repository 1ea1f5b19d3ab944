-- The lists of free slots in the working slice.
pub mod Free
pub mod Region
