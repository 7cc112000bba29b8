-- The promise: the model is the one that the value stands for, where the value has no shape fault, and a refusal names
-- the first one. Each definition's comment ends with its source in brackets, as in flame_spec.

-- What stands in values, what each want wants, the faults of all parts, and what they stand for.
pub mod ValueParts
pub mod Wants
pub mod LeafShapes
pub mod ConditionShapes
pub mod ShapeFaults
pub mod WantNames
pub mod Models
pub mod WideValues
-- What holds of these.
pub mod ShapeLaws
-- The words that only bodies and proofs use.
pub mod ValueData
pub mod ValuePlaces
pub mod FunctionStep
