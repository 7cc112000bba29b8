-- Each definition's comment ends with its source in brackets:
-- own: a choice of this project, or a word that a definition is made of
-- ---- how a core is seen, and what its calls answer
pub mod CoreCalls
pub mod SeenCores
-- ---- the words that only bodies and proofs use
pub mod NextAgents
pub mod KeptReady
pub mod KeptShares
pub mod KeptStarts
pub mod FunctionRanks
