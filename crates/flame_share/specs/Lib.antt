-- Each definition's comment ends with its source in brackets:
-- XMML: what a model declares
-- own: a choice of this project, or a word that a definition is made of
-- ---- pieces
pub mod NumberedPieces
pub mod PieceFits
-- ---- the words that only bodies and proofs use
pub mod PieceParts
