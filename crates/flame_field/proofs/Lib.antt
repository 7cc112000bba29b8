pub mod Changed
pub mod Gathered
pub mod Borne
mod Dealing
mod PoolsAt
mod Halving
pub mod Joining
mod Wanted
pub mod Written
