-- Each definition's comment ends with its source in brackets:
-- own: a choice of this project, or a word that a definition is made of
-- ---- who waits, and for what
pub mod FreeThings
pub mod Waiting
-- ---- how far functions are kept to be
pub mod KeptWorks
pub mod KeptStatuses
