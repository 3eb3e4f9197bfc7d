pub mod Performing
pub mod Promises
