-- The promise: of a run the first acts stand, and it ends for a reason; where nothing fails, all of it stands. Each
-- definition's comment ends with its source in brackets: FLAME User Manual: iterations and their files; own: a choice
-- of this project, or a word that a definition is made of.
pub mod DriveAnswers
pub mod WholeRuns
-- ---- runs: what holds of them, iteration by iteration, and what they are
pub mod IteratedRuns
pub mod Runs
-- ---- how they are written
pub mod RunScripts
pub mod FileNames
pub mod LineLaws
-- ---- how they go on from a file of their own
pub mod RestartLaws
-- ---- the words that only bodies and proofs use
pub mod StageStops
