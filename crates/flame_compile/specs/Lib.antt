-- The code of bodies: what each form becomes, and how pieces of code are put together. Each definition's comment ends
-- with its source in brackets, as in flame_spec.
pub mod Pieces
pub mod Emit
pub mod Sizes
pub mod ValidCodes
pub mod CodeCalls
