-- Each definition's comment ends with its source in brackets:
-- libmboard: boards
-- own: a choice of this project, or a word that a definition is made of
pub mod FrozenBoards
pub mod Indexes
-- The words that only bodies and proofs use.
pub mod IndexBodies
