-- The files stand in the order in which they are read. Each definition's comment ends with its source in brackets:
-- C, with its section: the C standard
-- FLAME User Manual: message loops, and the words by which functions read and write
-- own: a choice of this project, or a word that a definition is made of
pub mod Expressed
pub mod ParseFaults
pub mod Lexemes
pub mod LexemeSpellings
pub mod OperatorLevels
pub mod ExpressionGrammar
pub mod ViablePrefixes
pub mod Nesting
pub mod ExpressionLaws
-- the program's own words
pub mod ReadParts
