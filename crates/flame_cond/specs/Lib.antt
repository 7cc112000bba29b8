-- The promise: what was read is what is written, with columns for names, and says the same.
pub mod TestForms
pub mod Said
-- Which filters fix a column, and which read no memory.
pub mod Equalities
-- What a filter asks of a row alone, once a memory was read.
pub mod RowTests
-- When a test holds: what Said is made of.
pub mod Tests
-- The words that only bodies and proofs use.
pub mod ColumnTests
