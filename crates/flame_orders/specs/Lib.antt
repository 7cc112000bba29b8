-- Each definition's comment ends with its source in brackets:
-- FLAME User Manual: functions, states and messages
-- own: a choice of this project, or a word that a definition is made of
pub mod LastingLegality
pub mod NewlyLegal
pub mod WholeFunctions
pub mod UntouchedParts
pub mod OtherTakers
pub mod LastingEnds
pub mod OneBeginning
