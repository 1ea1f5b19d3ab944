-- The code's kinds and headers, as the rules have them.
pub mod Kinds
pub mod Header
pub mod Hall
