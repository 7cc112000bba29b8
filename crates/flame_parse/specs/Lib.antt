-- The files stand in the order in which they are read. Each definition's comment ends with its source in brackets:
-- C, with its section: the C standard
-- FLAME User Manual: message loops
-- own: a choice of this project, or a word that a definition is made of
pub mod Parsing
pub mod AssignmentOperators
pub mod StatementGrammar
pub mod ParseLaws
-- the program's own words
pub mod HeadSymbols
