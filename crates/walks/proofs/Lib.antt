pub mod Walking
pub mod Stopping
pub mod Listing
pub mod Taking
pub mod Covering
