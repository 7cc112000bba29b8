-- The promise: what each agent of a pool takes, and how a pool is parted.
pub mod Choosing
-- The same in the model's own words.
pub mod PoolLaws
