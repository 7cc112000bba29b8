pub mod Lexing
pub mod LexPieces
pub mod DefineLines
pub mod SourceWords
pub mod Numerals
pub mod ByteRuns
pub mod TextPlaces
pub mod LexFaults
pub mod CutLaws
-- the program's own words
pub mod LexSteps
