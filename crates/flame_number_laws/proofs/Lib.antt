-- What each form of a numbered tree gives and does.
pub mod NumberedForms
-- Locals and ends without names.
pub mod BaredLocals
pub mod BaredEnds
-- Numbers in place of names, form by form.
pub mod SameWords
pub mod SameExpressions
pub mod Deeds
pub mod SameStores
pub mod Standings
pub mod SameStatements
pub mod SameOutcomes
