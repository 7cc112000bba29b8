-- The promise of `flame` is `CallAnswers`, over the report of a command line, which is `OrderReports`. Each definition's
-- comment ends with its source in brackets:
-- FLAME User Manual: functions, iterations, files
-- own: a choice of this project, or a word that a definition is made of
pub mod CallAnswers
pub mod OrderReports
pub mod Reports
pub mod TraceReports
pub mod RefusalLines
pub mod TopLaws
pub mod RestartedFiles
-- The words that only bodies and proofs use.
pub mod EndingLines
pub mod InputAnswers
pub mod Ordering
pub mod ModelTexts
pub mod Printing
pub mod RunEndings
pub mod Standing
pub mod Telling
pub mod TraceAnswers
pub mod TrialAnswers
