-- The law is a lemma on values, part by part.
use Rattle.flame_xmml.proofs.Plain.{plain-same}
use Rattle.flame_xmml.proofs.laws.plain_in_wide.Goals as goal

pub returns : goal.returns
returns c = plain-same
