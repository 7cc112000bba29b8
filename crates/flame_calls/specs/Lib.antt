-- The promise: which faults calls of helpers have, in order.
pub mod FaultsOfCalls
-- The words that only bodies and proofs use.
pub mod CallMarks
