-- Conditions and filters of accepted sources.
use Rattle.flame_spec_laws.proofs.Columned.{condition_readable, filter_readable}
use Rattle.flame_spec_laws.proofs.accepted_laws.accepted_conditions.Goals as goal

pub returns-clause-conditions : goal.returns-clause-conditions
returns-clause-conditions c = condition_readable

pub returns-clause-filters : goal.returns-clause-filters
returns-clause-filters c = filter_readable
