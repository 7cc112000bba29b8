-- The promise: a plan is the model's order, layers and starts, and a fault is the model's.
pub mod Plans
-- What the edges are.
pub mod Edges
-- The words that only bodies and proofs use.
pub mod PlacedFunctions
pub mod FunctionTables
pub mod Links
