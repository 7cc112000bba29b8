-- The law is a lemma on values, part by part.
use Rattle.flame_xmml.proofs.FormedWide.{wide-formed}
use Rattle.flame_xmml.proofs.laws.well_formed_wide.Goals as goal

pub returns : goal.returns
returns c = wide-formed
