-- Heights of helpers, and what they are good for.
use Rattle.flame_spec_laws.proofs.Bounded.{calls_end_within_the_bound, bodies_mean_within_the_bound}
use Rattle.flame_spec_laws.proofs.joined_laws.bounded_calls.Goals as goal

pub returns-clause-calls : goal.returns-clause-calls
returns-clause-calls c = calls_end_within_the_bound

pub returns-clause-bodies : goal.returns-clause-bodies
returns-clause-bodies c = bodies_mean_within_the_bound
