-- The promise: what is read is the start that the value holds, where it has no fault, and a refusal is the first fault;
-- such a start is one of the model; and what is written is the text, and it reads back. Each definition's comment ends
-- with its source in brackets: FLAME User Manual: population files; JSON: its texts; own: a choice of this project, or a
-- word that a definition is made of.
pub mod PopulationFaults
pub mod PopulationStarts
pub mod StartLaws
pub mod IterationTexts
pub mod WrittenLaws
-- ---- reading: what stands in a value, and the agents that it holds
pub mod PopulationParts
pub mod PopulationAgents
pub mod PopulationKinds
-- ---- writing
pub mod RowTexts
-- ---- the words that only bodies and proofs use
pub mod PopulationNumbers
pub mod PopulationTables
pub mod DealtAgents
pub mod CommaTexts
pub mod TailTexts
pub mod FieldTexts
pub mod ObjectTexts
pub mod ShapeTexts
