pub mod FrameLemmas
pub mod ScriptLemmas
pub mod TellingLemmas
mod AnswerLemmas
pub mod PutLemmas
mod RaisedLemmas
mod StoredLemmas
mod TotalLemmas
mod TransferLemmas
