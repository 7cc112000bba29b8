-- First faults of lists that are walked, and of lists that are laid end to end.
pub mod Rests
pub mod Parts
-- What stands in lists that are searched, kept or numbered, and tests.
pub mod Members
pub mod Booleans
-- Widths by the names of messages.
pub mod Named
-- The bodies that are walked, and those that have no faults by then.
pub mod Walks
pub mod Clean
pub mod Bodies
