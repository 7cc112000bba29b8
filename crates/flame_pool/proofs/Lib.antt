pub mod Joining
pub mod AsChosen
