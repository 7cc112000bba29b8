-- The promise: the line of each fault, and the texts of `graph` and `code`. Each definition's comment ends with its source
-- in brackets:
-- own: a choice of this project, or a word that a definition is made of
pub mod FaultLines
pub mod PopulationLines
pub mod GraphTexts
pub mod CodeTexts
-- What lines and listings are made of.
pub mod LineParts
pub mod CodeListings
