-- The working slice, word by word, and what each call does to it.
pub mod Right
pub mod Followed
