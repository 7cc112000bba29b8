-- The promise of the crate first, then the definitions in reading order. Each definition's comment ends with its source
-- in brackets, as in flame_sense.
pub mod NumberedLaws
pub mod NumberedScenes
pub mod NumberedMeaning
pub mod NumberedOutcomes
