pub mod Distinct
pub mod Quotients
pub mod Overflows
