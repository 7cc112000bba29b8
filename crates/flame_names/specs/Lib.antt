-- The promise stands in flame_spec: a refusal is the first (FirstFaults) of the model's faults of names (NameFaults).
-- The words that only bodies and proofs use.
pub mod PlacePaths
pub mod NameLooks
pub mod UnitTables
pub mod VariableTables
pub mod TableScopes
pub mod FunctionTitles
