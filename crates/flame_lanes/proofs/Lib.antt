pub mod Listed
pub mod Columned
mod Dealt
mod GainSums
mod GainLists
mod BoardWeights
mod TaskLists
mod LastRuns
