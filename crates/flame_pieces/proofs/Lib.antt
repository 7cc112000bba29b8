pub mod Counting
mod Things
pub mod Freeing
mod Faults
mod KeptParts
mod Rooms
mod ByOutput
mod Pieces
