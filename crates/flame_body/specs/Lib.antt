-- What the words of a body stand for, the numbered trees that stand for named ones, the bodies of a model and its
-- function files, and when a numbered tree fits: the widths of the rows that it sees, and the helpers that it calls.
-- Each definition's comment ends with its source in brackets, as in flame_spec.
pub mod WordSlots
pub mod NumberedTrees
pub mod FunctionBodies
pub mod BodyFits
pub mod BodyCalls
-- ---- laws
pub mod FitLaws
pub mod BodyLaws
