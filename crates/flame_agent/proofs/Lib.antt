-- What views read, one input after another.
pub mod InputReadings
pub mod ReadingWidths
-- Views that no memory changes.
pub mod ForAll
-- The code of a function, and what it means.
pub mod AgentOutcomes
-- What one agent more leaves.
mod Nexts
