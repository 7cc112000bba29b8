-- Outcomes are within int.
use Rattle.flame_meaning.proofs.RangesKept.{outcomes_are_ints}
use Rattle.flame_meaning.proofs.accepted_laws.outcomes_are_ints.Goals as goal

pub returns : goal.returns
returns c = outcomes_are_ints
