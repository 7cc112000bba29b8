use Rattle.flame_machine.proofs.Going.{helper_suits}
use Rattle.flame_machine.proofs.running.helper_of.Goals as goal

pub returns-clause-suits : goal.returns-clause-suits
returns-clause-suits c = helper_suits c.args.helpers.now c.args.given.now c.args.helper c.code.result.now c.code.ensures.among c.requires.alike c.code.ensures.found

pub returns-clause-blind : goal.returns-clause-blind
returns-clause-blind c = c.code.ensures.among.blind c.args.helper c.code.result.now c.code.ensures.found
