use Rattle.flame_world.proofs.WidthsKept.{fitting_worlds_open, fitting_fields_stay, fitting_worlds_stay}
use Rattle.flame_world.proofs.laws.worlds_keep_their_widths.Goals as goal

pub returns-clause-open : goal.returns-clause-open
returns-clause-open c = fitting_worlds_open

pub returns-clause-step : goal.returns-clause-step
returns-clause-step c = fitting_fields_stay

pub returns-clause-iteration : goal.returns-clause-iteration
returns-clause-iteration c = fitting_worlds_stay
