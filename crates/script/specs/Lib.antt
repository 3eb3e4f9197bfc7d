pub mod Faults
pub mod Running
