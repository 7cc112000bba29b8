pub mod Known
pub mod Tallied
pub mod Cores
pub mod Waiters
pub mod Allowing
mod Pieces
