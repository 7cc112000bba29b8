-- The bound of calls is not met.
use Rattle.flame_meaning.proofs.DeepCalls.{deeper_calls_end_alike, deeper_calls_mean_alike}
use Rattle.flame_meaning.proofs.accepted_laws.calls_are_within_the_bound.Goals as goal

pub returns-clause-calls : goal.returns-clause-calls
returns-clause-calls c = deeper_calls_end_alike

pub returns-clause-bodies : goal.returns-clause-bodies
returns-clause-bodies c = deeper_calls_mean_alike
