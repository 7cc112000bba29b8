pub mod KnownTypes
pub mod TreeValues
pub mod ClearAgents
pub mod DealtBags
pub mod BagRows
pub mod HeldPopulations
