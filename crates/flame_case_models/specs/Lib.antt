-- What is known of a model that was found.
pub mod FoundModels
