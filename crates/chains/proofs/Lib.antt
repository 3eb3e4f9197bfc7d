pub mod Lasts
pub mod Links
pub mod Walks
pub mod Rows
pub mod Bests
pub mod Swaps
