-- What calls on the outside promise is said at the traits `Depot` and `Sink`, in these words. Each definition's comment
-- ends with its source in brackets: own: a choice of this project.
pub mod Files
pub mod Devices
pub mod Told
pub mod Printed
pub mod Rose
pub mod Failures
pub mod Frames
pub mod Scripts
pub mod FrameLaws
pub mod ScriptLaws
pub mod WhatIsTold
-- The devices of this crate: in memory, and the real ones.
pub mod Calls
pub mod Memory
pub mod Host
-- The program's own words.
pub mod Stored
pub mod MemoryCodes
