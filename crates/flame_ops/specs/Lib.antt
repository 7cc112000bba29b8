pub mod Integers
pub mod CauseNames
pub mod Words
pub mod Spellings
pub mod Ascii
pub mod Division
pub mod Overflows
pub mod SpellingLaws
