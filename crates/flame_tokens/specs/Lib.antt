pub mod NumberTrees
pub mod MemberTrees
pub mod AgentTrees
pub mod BagTrees
pub mod PassedTrees
pub mod PopulationTrees
