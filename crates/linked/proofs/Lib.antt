-- What is so of the code that a host links.
pub mod Made
pub mod Demand3
pub mod Image
pub mod Trays
pub mod QuickTrays
pub mod Tenants
pub mod Views
