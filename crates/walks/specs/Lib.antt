pub mod Walk
pub mod Rows
pub mod Faults
