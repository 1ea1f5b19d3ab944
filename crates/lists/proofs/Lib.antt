-- Laws of the lists.
pub mod Sorting
pub mod Rank
pub mod Regions
pub mod Lists
pub mod Shown
pub mod Walks
pub mod Making
pub mod Whole
