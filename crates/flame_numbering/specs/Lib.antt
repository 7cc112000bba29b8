-- What the tables of locals and of places keep, what arguments are for, heads of `for`, and where words are looked up:
-- the words that only bodies and proofs use.
pub mod LocalTables
pub mod SightTables
pub mod Arguments
pub mod Heads
pub mod WordPlaces
