-- Which locals each form names and declares.
pub mod BelowForms
pub mod NumberingForms
-- The numbers that sources give.
pub mod NumberedTrees
-- How runs go on, instruction by instruction.
pub mod Going
-- Expressions and arguments.
pub mod FormNumbers
pub mod FaithfulExpressions
-- What statements come to; stored values, declarations, assignments and call statements.
pub mod Comings
pub mod FaithfulStores
pub mod FaithfulDeeds
-- Scopes, loops, and statements.
pub mod Turning
pub mod RowTurns
pub mod FaithfulBlocks
pub mod FaithfulLoops
pub mod FaithfulStatements
-- Whole bodies: their locals at the beginning, their ends, and their outcomes.
pub mod OutcomeLocals
pub mod OutcomeEnds
pub mod Outcomes
