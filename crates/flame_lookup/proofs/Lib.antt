pub mod Backwards
pub mod Columns
pub mod Kept
pub mod Firsts
pub mod Places
