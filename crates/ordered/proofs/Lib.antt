pub mod Rows
pub mod Firsts
pub mod Changes
