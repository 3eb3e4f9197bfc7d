pub mod Shapes
pub mod Reading
pub mod Inserting
pub mod Altering
pub mod Scanning
