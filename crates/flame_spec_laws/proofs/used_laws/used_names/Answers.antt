-- Where no fault comes from a list, none comes from an element.
use Rattle.flame_spec_laws.proofs.UsedKnown.{used_declared}
use Rattle.flame_spec_laws.proofs.used_laws.used_names.Goals as goal

pub returns : goal.returns
returns c = used_declared
