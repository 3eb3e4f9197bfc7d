pub mod Calling
pub mod Stamping
pub mod Ending
pub mod Restart
pub mod Places
pub mod Pairs
pub mod Sweeping
