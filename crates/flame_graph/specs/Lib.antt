-- What lists of successors say, which conditions and clauses of the calls are made of. Each definition's comment ends
-- with its source in brackets; own: a word that definitions are made of.
pub mod Marks
pub mod Graph
-- The words that only bodies and proofs use.
pub mod Ready
pub mod Heights
pub mod Backs
