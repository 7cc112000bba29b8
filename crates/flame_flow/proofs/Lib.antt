mod Lists
mod Places
mod Tellings
mod Left
mod Marked
mod GoneOn
mod Lessening
mod Settling
mod Bringing
mod Opening
mod FlowSteps
mod Readiness
mod DueBoards
pub mod SentFlows
