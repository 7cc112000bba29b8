-- The promise: what is written is the text of what was recorded; what is read is given the verdict that the text has;
-- and a text that is said to tell the iteration does. Each definition's comment ends with its source in brackets:
-- own: a choice of this project, or a word that a definition is made of.
pub mod TraceLaws
pub mod TraceVerdicts
-- ---- what a trace says
pub mod TraceTexts
-- ---- how its lines are read
pub mod TraceLines
-- ---- the words that only bodies and proofs use
pub mod TraceCuts
pub mod TraceSteps
