pub mod Going
pub mod Performing
mod Places
