-- Functions and helpers begin in agreement.
use Rattle.flame_meaning.proofs.Agreeing.{function_begins, helper_begins}
use Rattle.flame_meaning.proofs.accepted_laws.agreement_at_the_start.Goals as goal

pub returns-clause-functions : goal.returns-clause-functions
returns-clause-functions c = function_begins

pub returns-clause-helpers : goal.returns-clause-helpers
returns-clause-helpers c = helper_begins
