-- Each definition's comment ends with its source in brackets:
-- FLAME User Manual: agents and functions
-- libmboard: boards
-- own: a choice of this project, or a word that a definition is made of
pub mod KeptRounds
pub mod Choices
