-- What events make of a piece.
use Rattle.std.specs.Prelude.{ℕ, ◌+◌, ◌==◌, nat_le, List, map, length, Option, Some, None, slice_set, Bool, false}
use Rattle.std.specs.List.{All, position_or_len}
use Rattle.std.specs.Option.{option_or}
use Rattle.flame_spec.specs.Below.{HasNoTwice}
use Rattle.flame_events.specs.CoreStates.{Work}
use Rattle.flame_pieces.specs.declared.statuses.Status as run
use Rattle.flame_pieces.specs.declared.statuses.Status.TheVariants as is
use Rattle.flame_pieces.specs.KeptWorks.{outputs_in, with_lists}
use Rattle.flame_progress.specs.declared.leavings.PartedLeaving.{PartedLeaving}

-- some agents more of it ran, and left this [own]
abbrev pub added : PartedLeaving → Work → Work
added left work = record work {
  ran = work.ran + left.ran;
  parts = with_lists (map (λ rows. rows.items) left.parts.items) work.parts;
  fault = option_or work.fault left.fault;
}

-- there are so many agents left in the piece [own]
abbrev pub are_left : ℕ → Option Work → Bool
are_left ran None = false
are_left ran (Some work) = nat_le (work.ran + ran) (length work.agents)

-- its messages of this type are handed in [own]
abbrev pub without : List ℕ → ℕ → Work → Work
without outputs message work = record work {
  parts = slice_set work.parts (position_or_len (λ output. output == message) outputs) None;
}

-- no output stands twice in a piece [own]
abbrev pub OutputsOnce : run.Status → Type 0
OutputsOnce is.Waiting = Unit {0}
OutputsOnce (is.Open works) = All (λ work. HasNoTwice (outputs_in work)) works.items
OutputsOnce is.Shut = Unit {0}
OutputsOnce (is.Faulted fault) = Unit {0}
