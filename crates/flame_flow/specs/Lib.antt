-- Each definition's comment ends with its source in brackets:
-- own: a choice of this project, or a word that a definition is made of
-- ---- how a flow is seen, and what its calls answer
pub mod FlowCalls
pub mod SeenFlows
pub mod FlowStates
pub mod QuietCores
pub mod ToldCores
-- ---- the words that only bodies and proofs use
pub mod BegunPieces
pub mod Goings
pub mod KeptGoings
pub mod KeptWays
pub mod KeptFlows
