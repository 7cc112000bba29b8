pub mod Writing
pub mod Blocks
pub mod Forms
pub mod RowSizes
pub mod Sized
pub mod SizedBlocks
-- The code of a body that fits is valid.
pub mod Labelled
pub mod LabelledExpressions
pub mod LabelledStores
pub mod LabelledStatements
pub mod LabelledBodies
-- The calls in the code of a body fit where those of its tree do.
pub mod CallFree
pub mod CallsKept
