-- The promise: the source that the files stand for, or their first refusal. Each definition's comment ends with its source in
-- brackets: XMML: model files; C, with its section: the C standard; FLAME User Manual: the order of functions; JSON: values;
-- own: a choice of this project, or a word that a definition is made of.
pub mod LoadAnswers
pub mod LoadedSources
pub mod LoadLaws
-- The second promise: the start that a population file holds, or its first refusal.
pub mod StartAnswers
pub mod StartReads
-- What the parts of loading are.
pub mod InputReads
pub mod LoadRefusals
pub mod ModelFileReads
pub mod FunctionFileReads
pub mod TextReads
pub mod FileReads
pub mod JsonReads
-- The words that only bodies and proofs use.
pub mod FileAnswers
pub mod TextAnswers
pub mod RestsOfReadings
pub mod CheckedSources
