-- Each definition's comment ends with its source in brackets:
-- FLAME User Manual: agents and functions
-- XMML: what a model declares
-- libmboard: boards
-- own: a choice of this project, or a word that a definition is made of
-- ---- the words that only bodies and proofs use; what the runner promises is said in flame_world's words
pub mod Schedules
pub mod LayerChoices
pub mod LayerTasks
pub mod LayerWork
pub mod LayerRuns
