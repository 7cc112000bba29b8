use Rattle.std.proofs.Common.{Some, None, [], ap, ◌∙◌}
use Rattle.std.specs.Prelude.{slice_index_or, if◌then◌else◌}
use Rattle.flame_events.specs.CoreStates.{is_frozen}
use Rattle.flame_core.specs.SeenCores.{Seen}
use Rattle.flame_core.proofs.cores.Core.frozen.Goals as goal

pub returns : goal.returns
returns c =
    c.frozen.ensures
    ∙ ap (λ (s : Seen). if is_frozen s.core c.args.message then Some (slice_index_or s.core.field.boards c.args.message []) else None) c.self.view_is
