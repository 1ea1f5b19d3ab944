-- Demand 3 at work on tables, runs and trays that are written out; and for each of its premises two that break it, and tell. And subtyped files at work.
pub mod Carried
pub mod Instance
pub mod TrayInstance
pub mod QuickInstance
pub mod Desk
pub mod TrayDesk
pub mod Shelf
