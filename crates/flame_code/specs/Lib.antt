-- Inputs, codes, and when a code is valid.
pub mod Feeds
pub mod InputRows
pub mod Routines
pub mod Validity
pub mod HelperCodes
-- The machine, and what a code means.
pub mod Machine
pub mod Meanings
-- How labels show that a code is valid.
pub mod Labels
-- What holds of meanings.
pub mod CodeLaws
pub mod InstrNames
-- The words that only bodies and proofs use.
pub mod OnPath
