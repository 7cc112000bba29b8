-- No default is met.
use Rattle.flame_meaning.proofs.Coming.{functions_meet_no_default, helpers_meet_no_default}
use Rattle.flame_meaning.proofs.accepted_laws.no_default_is_met.Goals as goal

pub returns-clause-functions : goal.returns-clause-functions
returns-clause-functions c = functions_meet_no_default

pub returns-clause-helpers : goal.returns-clause-helpers
returns-clause-helpers c = helpers_meet_no_default
