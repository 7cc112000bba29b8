pub mod Gets
pub mod StatePlaces
pub mod NamedNumbers
pub mod LeftRows
pub mod Stepped
pub mod Chosen
mod Dealt
pub mod Beginnings
pub mod Past
mod Lengths
mod Collected
pub mod BoardBags
