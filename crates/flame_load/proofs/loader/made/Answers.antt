-- What names, check and plan accept is accepted.
use Rattle.flame_load.proofs.loader.made.Goals as goal

pub make-requires-clause-accepted : goal.make-requires-clause-accepted
make-requires-clause-accepted c =
    c.planned_are_accepted.ensures c.args.source c.args.plan c.requires.formed c.requires.named
    c.requires.checked.faultless c.requires.plan

pub make-requires-clause-bodies : goal.make-requires-clause-bodies
make-requires-clause-bodies c = c.requires.checked.bodies

pub make-requires-clause-helpers : goal.make-requires-clause-helpers
make-requires-clause-helpers c = c.requires.checked.helpers

pub make-requires-clause-plan : goal.make-requires-clause-plan
make-requires-clause-plan c = c.requires.plan
