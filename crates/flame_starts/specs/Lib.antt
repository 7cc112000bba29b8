-- The promise: a start that is given is held by the value that serde_json reads. Each definition's comment ends with its
-- source in brackets; own: a choice of this project.
pub mod HeldStarts
