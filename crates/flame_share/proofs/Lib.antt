mod Loops
mod PartedMessages
pub mod SharedPrograms
