use Rattle.flame_view.proofs.AsWritten.{view_is_as_written}
use Rattle.flame_view.proofs.laws.views_are_as_written.Goals as goal

pub returns : goal.returns
returns c = view_is_as_written
