use Rattle.flame_meaning.proofs.Leavings.{rows_have_widths}
use Rattle.flame_meaning.proofs.laws.rows_of_outcomes.Goals as goal

pub returns : goal.returns
returns c = rows_have_widths
