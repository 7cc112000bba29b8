pub mod Marking
pub mod ReadySets
pub mod Counting
pub mod Settling
pub mod Turns
pub mod Following
pub mod Reaching
pub mod Walking
