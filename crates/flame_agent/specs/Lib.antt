-- Each definition's comment ends with its source in brackets:
-- FLAME User Manual: agents, functions and what they read
-- XMML: what a model declares
-- own: a choice of this project, or a word that a definition is made of
-- ---- what a run of a function for an agent asks for
pub mod FunctionFits
-- ---- what helps the views of agents
pub mod WantedKeys
pub mod ViewsForAll
-- ---- the words that only bodies and proofs use
pub mod InputViews
