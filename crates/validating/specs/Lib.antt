pub mod Order
pub mod Walk
pub mod Tested
pub mod Concluding
