-- Each definition's comment ends with its source in brackets:
-- FLAME User Manual: agent types, states and functions
-- XMML: what a model declares
-- own: a choice of this project, or a word that a definition is made of
-- ---- the promise: what the routes of a model are
pub mod ModelRoutes
-- ---- the program's own words: the routes of one agent type
pub mod TypeRoutes
