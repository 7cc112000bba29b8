-- The promise: each look-up gives what the definitions of flame_spec say, over these sources. Each definition's comment
-- ends with its source in brackets; own: a word that definitions are made of.
pub mod Sources
pub mod WordsFound
-- The words that only bodies and proofs use.
pub mod WrittenForms
pub mod WordTables
