-- The codes of functions and helpers, by number.
pub mod CodesFound
mod ListedNext
