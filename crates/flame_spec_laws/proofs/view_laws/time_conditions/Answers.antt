use Rattle.flame_spec_laws.proofs.Repeating.{time_repeats}
use Rattle.flame_spec_laws.proofs.view_laws.time_conditions.Goals as goal

pub returns : goal.returns
returns c = time_repeats
