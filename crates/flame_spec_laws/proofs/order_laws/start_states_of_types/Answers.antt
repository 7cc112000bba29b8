-- A filter keeps the states that pass, and the first function of a type in model order leaves one of them.
use Rattle.flame_spec.proofs.Starts.{start_parts, start_from}
use Rattle.flame_spec.proofs.Beginnings.{types_start}
use Rattle.flame_spec_laws.proofs.Places.{one_start}
use Rattle.flame_spec_laws.proofs.order_laws.start_states_of_types.Goals as goal

pub returns-clause-entered : goal.returns-clause-entered
returns-clause-entered c = λ functions state. (start_parts functions state, start_from functions state)

pub returns-clause-some : goal.returns-clause-some
returns-clause-some c = types_start

pub returns-clause-one : goal.returns-clause-one
returns-clause-one c = one_start
