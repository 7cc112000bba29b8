-- Functions of the model with their types, as they were found.
pub mod PiecePlaces
