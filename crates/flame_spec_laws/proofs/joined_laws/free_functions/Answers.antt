-- Only turns and calls take fuel.
use Rattle.flame_spec_laws.proofs.Free.{free_functions_spend_nothing, free_functions_never_lack_fuel}
use Rattle.flame_spec_laws.proofs.joined_laws.free_functions.Goals as goal

pub returns-clause-ended : goal.returns-clause-ended
returns-clause-ended c = free_functions_spend_nothing

pub returns-clause-faulted : goal.returns-clause-faulted
returns-clause-faulted c = free_functions_never_lack_fuel
