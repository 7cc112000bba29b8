-- The promise: the flat model, or the first fault (FirstFaults in flame_spec). Each definition's comment ends with its source in brackets, as in flame_spec.
pub mod FlatModels
pub mod NestFaults
pub mod NestKindNames
-- What holds of these.
pub mod FlatLaws
-- The words that only bodies and proofs use.
pub mod KindTables
pub mod GivenTables
pub mod FileWalks
