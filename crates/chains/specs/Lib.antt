pub mod Chained
pub mod Best
