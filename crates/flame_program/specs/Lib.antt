-- The promise: the code of a program means what its source says.
pub mod ProgramMeaning
-- What makes sources accepted, and what acceptance gives.
pub mod AcceptanceLaws
-- The rows that functions read.
pub mod InputWidths
-- What the codes of a source are, and what its filters and keys were read to.
pub mod SourceCodes
pub mod SourceInputs
-- The words that only bodies and proofs use.
pub mod Readable
pub mod ProgramParts
