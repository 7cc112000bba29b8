-- The files stand in the order in which they are read. The comment of a definition ends with its source in brackets, or
-- the first line of its file where that is the source of all of it:
-- FLAME User Manual: states, functions, messages, time, and the words by which functions read and write
-- XMML: what a model file names, and what its parts are
-- libmboard: boards, and filtered and sorted iterators over them
-- C, with its section: the C standard
-- JSON: the rendering of a file's value
-- own: a choice of this project, or a word that a definition is made of
pub mod Lists
pub mod Names
pub mod Columns
pub mod TimeUnits
pub mod Functions
pub mod Capitals
pub mod KnownNames
pub mod LookUps
pub mod WellFormed
pub mod Counted
pub mod WideModels
pub mod PlainFiles
pub mod Paths
pub mod Refusals
pub mod FirstFaults
pub mod UnitFaults
pub mod MessageFaults
pub mod Leaves
pub mod FunctionFaults
pub mod NameFaults
pub mod KindNames
pub mod Conditions
pub mod Views
pub mod Choice
pub mod ViewLaws
pub mod States
pub mod Before
pub mod Below
pub mod ModelOrder
pub mod Layers
pub mod Trees
pub mod Seen
pub mod Definitions
pub mod Scopes
pub mod ExpressionFaults
pub mod CallFaults
pub mod StatementFaults
pub mod HelperFaults
pub mod CheckFaults
pub mod Accepted
-- words of readers of values and texts
pub mod Steps
pub mod Json
