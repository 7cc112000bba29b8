pub mod Commas
pub mod Draws
