pub mod ReportLines
pub mod RefusedInputs
pub mod GivenInputs
pub mod Standings
pub mod PrintedTexts
pub mod DrivenRuns
pub mod FileAndLine
pub mod FewStatuses
pub mod TrialActs
pub mod CarriedReports
pub mod RunLines
pub mod LeftFiles
pub mod FileRestarts
pub mod ReportedLines
mod ToldLines
mod FaultlessEndings
mod TraceEndings
mod ReplayEndings
mod SomeTraces
mod TracedIterations
mod CarriedCalls
mod Causes
mod OrderedWords
mod FileTotals
mod OwnDepots
mod PrintedScripts
mod RunNames
mod TrialEndings
mod TrialInputs
mod OneAnswers
