-- The definitions in reading order, and behind them the laws. Each definition's comment ends with its source
-- in brackets:
-- FLAME User Manual: what functions read and write, and message loops
-- XMML: what a model file names
-- C, with its section: the C standard
-- own: a choice of this project, or a word that a definition is made of
pub mod Scenes
pub mod Expressions
pub mod Ends
pub mod Loops
pub mod Statements
pub mod HelperCalls
pub mod Outcomes
-- ---- laws
pub mod OutcomeLaws
pub mod Agreement
pub mod AcceptedMeaning
pub mod OutputLaws
pub mod DepthLaws
pub mod RangeLaws
pub mod RunLaws
pub mod WidthLaws
-- ---- words of the proofs
pub mod Kept
