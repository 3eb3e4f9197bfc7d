pub mod Steps
pub mod Picking
pub mod Noting
pub mod Mapping
pub mod Lookups
