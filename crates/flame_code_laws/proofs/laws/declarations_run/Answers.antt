-- The code of declarations comes to what they come to.
use Rattle.flame_code_laws.proofs.FaithfulStores.{items_come}
use Rattle.flame_code_laws.proofs.laws.declarations_run.Goals as goal

pub returns : goal.returns
returns c = λ run f sound. items_come run f sound
