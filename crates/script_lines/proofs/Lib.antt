pub mod Cutting
pub mod Reading
pub mod Asking
pub mod Counting
