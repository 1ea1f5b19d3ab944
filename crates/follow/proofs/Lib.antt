-- What each call does to the working slice leaves it right.
pub mod Places
pub mod One
pub mod Made
pub mod Rows
pub mod Slots
pub mod Entries
pub mod Unseen
pub mod Given
pub mod Anew
pub mod Release
pub mod Follows
pub mod Telling
