-- Laws of the listing's text.
pub mod Names
pub mod Numbers
pub mod Length
