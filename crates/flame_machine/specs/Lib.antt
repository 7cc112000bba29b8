-- What a run leaves that adds to lists.
pub mod RunsInto
-- What a feed over rows in memory is, and the tests of what a run asks for.
pub mod ListCursors
pub mod Fitting
-- The words that only bodies and proofs use.
pub mod MachineFrames
pub mod MachineSteps
pub mod Running
