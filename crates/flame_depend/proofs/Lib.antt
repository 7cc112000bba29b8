pub mod Gets
pub mod Entering
pub mod Linking
pub mod Following
pub mod Distinct
pub mod Planning
