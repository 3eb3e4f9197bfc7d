-- The text that a script's run prints.
pub mod Words
pub mod Texts
