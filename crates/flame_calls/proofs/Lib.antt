pub mod Marks
pub mod Callees
pub mod Repeats
pub mod Writing
pub mod Outcomes
pub mod Listing
