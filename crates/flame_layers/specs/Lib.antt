-- The promise: iterations by layers end as iterations whose functions run one after another.
-- Each definition's comment ends with its source in brackets:
-- FLAME User Manual: agents, states, functions and messages
-- own: a choice of this project, or a word that a definition is made of
pub mod LayerLaws
-- ---- what it is about
pub mod LayerFunctions
pub mod LayerFields
pub mod LayerStates
