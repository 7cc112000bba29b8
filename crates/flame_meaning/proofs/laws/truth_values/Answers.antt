use Rattle.flame_meaning.proofs.Leavings.{truth_is_zero_or_one}
use Rattle.flame_meaning.proofs.laws.truth_values.Goals as goal

pub returns : goal.returns
returns c = truth_is_zero_or_one
