-- The law is a lemma on values, part by part.
use Rattle.flame_xmml.proofs.Formed.{model-formed}
use Rattle.flame_xmml.proofs.laws.well_formed.Goals as goal

pub returns : goal.returns
returns c = model-formed
