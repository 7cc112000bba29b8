use Rattle.flame_events.proofs.CoreWidths.{fitting_cores_open, fitting_cores_stay}
use Rattle.flame_events.proofs.laws.cores_keep_their_widths.Goals as goal

pub returns-clause-open : goal.returns-clause-open
returns-clause-open c = fitting_cores_open

pub returns-clause-stay : goal.returns-clause-stay
returns-clause-stay c = fitting_cores_stay
