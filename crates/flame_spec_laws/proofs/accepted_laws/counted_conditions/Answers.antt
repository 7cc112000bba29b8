-- Rows of models whose parts can be numbered are narrow.
use Rattle.flame_spec_laws.proofs.Narrow.{counted_condition_readable, counted_filter_readable}
use Rattle.flame_spec_laws.proofs.accepted_laws.counted_conditions.Goals as goal

pub returns-clause-conditions : goal.returns-clause-conditions
returns-clause-conditions c = counted_condition_readable

pub returns-clause-filters : goal.returns-clause-filters
returns-clause-filters c = counted_filter_readable
