pub mod InputMoves
pub mod FeedMoves
pub mod Safety
pub mod Uniqueness
pub mod Endings
pub mod Rooms
pub mod Labelling
