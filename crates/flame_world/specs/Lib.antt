-- Each definition's comment ends with its source in brackets:
-- FLAME User Manual: agents, states, functions and iterations
-- libmboard: boards
-- XMML: what a model declares
-- own: a choice of this project, or a word that a definition is made of
pub mod AgentRuns
pub mod Fields
pub mod Iterations
-- ---- shares of the work
pub mod Settings
pub mod Meaning
pub mod Shares
-- ---- traces
pub mod Verdicts
-- ---- laws
pub mod IterationLaws
pub mod WorldLaws
pub mod CountLaws
pub mod WorldFits
pub mod InputBoards
