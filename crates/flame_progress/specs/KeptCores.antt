-- How a core is kept.
use Rattle.std.specs.Prelude.{ℕ, List, map, slice_index_or}
use Rattle.flame_events.specs.CoreStates.{Core}
use Rattle.flame_pieces.specs.declared.statuses.Status.{Status}
use Rattle.flame_pieces.specs.declared.statuses.Status.TheVariants.{Waiting}
use Rattle.flame_pieces.specs.KeptStatuses.{status_of, HasOutputs}
use Rattle.flame_progress.specs.declared.progress.Progress as run
use Rattle.flame_field.specs.KeptBoards.{is_board_frozen}
use Rattle.flame_field.specs.KeptFields.{field_of}

-- the core that it is [own]
abbrev pub core_of : run.Progress → Core
core_of progress = record {
  statuses = map status_of progress.statuses.items;
  field = field_of progress.field;
  frozen = map is_board_frozen progress.field.boards.items;
}

-- how far the function of this number is kept to be [own]
abbrev pub kept_at : run.Progress → ℕ → Status
kept_at progress function = slice_index_or progress.statuses.items function Waiting

-- the pieces of the function of this number have these outputs [own]
abbrev pub HasOutputsAt : run.Progress → ℕ → List ℕ → Type 0
HasOutputsAt progress function outputs = HasOutputs outputs (kept_at progress function)
