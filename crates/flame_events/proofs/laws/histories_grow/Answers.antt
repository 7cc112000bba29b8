use Rattle.flame_events.proofs.Growing.{histories_grow, histories_fit}
use Rattle.flame_events.proofs.laws.histories_grow.Goals as goal

pub returns-clause-grow : goal.returns-clause-grow
returns-clause-grow c = histories_grow

pub returns-clause-fit : goal.returns-clause-fit
returns-clause-fit c = histories_fit
