pub mod Filtered
pub mod Alike
pub mod FirstColumns
pub mod Placed
pub mod Narrowed
pub mod AsWritten
