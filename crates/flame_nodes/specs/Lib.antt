-- Each definition's comment ends with its source in brackets:
-- FLAME User Manual: agents and functions
-- libmboard: boards
-- XMML: what a model declares
-- own: a choice of this project, or a word that a definition is made of
-- ---- takers parted among nodes
pub mod Partings
pub mod PartingLaws
pub mod NodePartings
pub mod NodePieces
-- ---- the runner
pub mod SeenNodes
-- ---- shares gathered
pub mod GatheredShares
-- ---- the words that only bodies and proofs use
pub mod NodeWork
pub mod NodeLeavings
