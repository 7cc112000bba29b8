-- What is known of a source that was found.
pub mod CaseSources
-- What the check gives of function files that it accepts.
pub mod CheckedFiles
