-- Lists, and where functions stand.
pub mod Zips
pub mod TypePlaces
pub mod Readables
pub mod InputSelectors
-- The bodies of sources and their codes.
pub mod SourceBodies
pub mod ProgramOutcomes
pub mod Acceptances
pub mod ReadingWidths
pub mod Codings
