-- Each definition's comment ends with its source in brackets:
-- libmboard: boards
-- own: a choice of this project, or a word that a definition is made of
-- ---- where agents, births and messages are
pub mod KeptGatherings
pub mod KeptPools
pub mod KeptBoards
pub mod KeptFields
-- ---- what is kept beside boards
pub mod KeptOrders
