pub mod Weights
mod Roles
mod Relays
mod Handed
pub mod EndLists
mod Turns
