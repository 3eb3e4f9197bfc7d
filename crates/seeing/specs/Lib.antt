pub mod Phases
pub mod Slots
pub mod Seeing
pub mod Changing
