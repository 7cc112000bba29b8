-- Each definition's comment ends with its source in brackets:
-- own: a choice of this project, or a word that a definition is made of
-- ---- how an iteration is kept
pub mod KeptCores
-- ---- what waits for what
pub mod KeptCounts
pub mod Tallying
pub mod ManyWait
-- ---- the words that only bodies and proofs use
pub mod KeptWorkEvents
pub mod KeptRooms
