-- Names that are seen.
pub mod NamesSeen
-- What each numbered form is, how it fits, and what calls of helpers it has.
pub mod FitForms
pub mod CallForms
-- What stands within rows; what a body without check faults has, from words to statements.
pub mod Columned
pub mod FittedWords
pub mod FittedExpressions
pub mod FittedCalls
pub mod KeptSuits
pub mod FittedStored
pub mod FittedStatements
pub mod CountedCalls
-- Bodies by number.
pub mod NumberedBodies
