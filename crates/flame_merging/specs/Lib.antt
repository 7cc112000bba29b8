-- Each definition's comment ends with its source in brackets:
-- own: a choice of this project, or a word that a definition is made of
pub mod RowLists
