-- Each definition's comment ends with its source in brackets:
-- FLAME User Manual: functions, states and messages
-- XMML: what a model declares
-- libmboard: boards
-- own: a choice of this project, or a word that a definition is made of
pub mod EveryOrder
pub mod AbsorbedPieces
pub mod HandedPieces
-- ---- what it is about
pub mod EvenPieces
pub mod CoreStates
pub mod LegalEvents
pub mod EventSteps
pub mod CoreEnds
pub mod FaultRanks
pub mod CoreFits
pub mod Histories
pub mod CoreLaws
pub mod EventBounds
