-- What the code makes of words: identifiers of a kind, and the word of a seid.
pub mod Seid
