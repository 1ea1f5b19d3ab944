-- The declared level as the rules' record.
pub mod Rule
