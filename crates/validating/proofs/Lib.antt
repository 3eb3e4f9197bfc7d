pub mod Above
pub mod Nexts
pub mod Testing
pub mod Turns
pub mod Verdicts
