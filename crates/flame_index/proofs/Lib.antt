pub mod SortedParts
pub mod Entered
pub mod Ordered
pub mod Ranged
pub mod Searching
pub mod Starting
pub mod KeptKeys
