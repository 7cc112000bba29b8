-- The locals of a C function's body have the numbers of their places.
use Rattle.flame_code_laws.proofs.NumberedTrees.{definitions-numbered}
use Rattle.flame_code_laws.proofs.laws.definitions_are_numbered.Goals as goal

pub returns : goal.returns
returns c = definitions-numbered
