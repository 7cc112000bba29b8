-- The promise: the rows that a view has, and that they are those that the model's names mean.
pub mod Compiled
-- What a feed of views is.
pub mod Cursors
-- The words that only bodies and proofs use.
pub mod ViewRows
pub mod ViewWays
