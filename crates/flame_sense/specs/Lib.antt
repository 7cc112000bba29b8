-- The promise of the crate first, then the program's own words.
pub mod Meant
pub mod StandsFor
pub mod Depths
pub mod Acts
