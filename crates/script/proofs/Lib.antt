pub mod Telling
pub mod Wholes
pub mod Lawfully
