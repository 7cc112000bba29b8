-- The promises of the crate first, then the definitions in reading order. Each definition's comment ends with its
-- source in brackets, as in flame_sense.
pub mod FaithfulLaws
pub mod NumberLaws
pub mod CodeRuns
pub mod NamedLocals
pub mod Likeness
pub mod LocalNumbers
pub mod Standings
pub mod CodeOutcomes
