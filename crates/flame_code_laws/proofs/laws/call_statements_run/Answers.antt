-- The code of call statements comes to what they come to.
use Rattle.flame_code_laws.proofs.FaithfulDeeds.{deed_comes}
use Rattle.flame_code_laws.proofs.laws.call_statements_run.Goals as goal

pub returns : goal.returns
returns c = λ run f sound. deed_comes run f sound
