-- How far functions are kept to be.
use Rattle.std.specs.Prelude.{◌≡◌, ℕ, ℤ, List, Vec, map, length, Some, slice_get}
use Rattle.std.specs.Global.{Global}
use Rattle.std.specs.List.{All}
use Rattle.flame_events.specs.CoreStates.{Status, Waiting, Open, Shut, Faulted}
use Rattle.flame_pieces.specs.declared.works.Work.{Work}
use Rattle.flame_pieces.specs.declared.statuses.Status as run
use Rattle.flame_pieces.specs.declared.statuses.Status.TheVariants as is
use Rattle.flame_pieces.specs.KeptWorks.{work_of, outputs_in, WorkHasRoom}

-- how far it is [own]
abbrev pub status_of : run.Status → Status
status_of is.Waiting = Waiting
status_of (is.Open works) = Open (map work_of works.items)
status_of is.Shut = Shut
status_of (is.Faulted fault) = Faulted fault

-- its pieces have these outputs [own]
abbrev pub HasOutputs : List ℕ → run.Status → Type 0
HasOutputs outputs is.Waiting = Unit {0}
HasOutputs outputs (is.Open works) = All (λ work. outputs_in work ≡ outputs) works.items
HasOutputs outputs is.Shut = Unit {0}
HasOutputs outputs (is.Faulted fault) = Unit {0}

-- its pieces have so many outputs [own]
abbrev pub FitOutputs : ℕ → run.Status → Type 0
FitOutputs count is.Waiting = Unit {0}
FitOutputs count (is.Open works) = All (λ work. length (outputs_in work) ≡ count) works.items
FitOutputs count is.Shut = Unit {0}
FitOutputs count (is.Faulted fault) = Unit {0}

-- its piece of this number has room for these messages, a list for each output [own]
abbrev pub PieceHasRoom : List (Vec (List ℤ) Global) → run.Status → ℕ → Type 0
PieceHasRoom parts is.Waiting piece = Unit {0}
PieceHasRoom parts (is.Open works) piece = (work : Work) → slice_get works.items piece ≡ Some work → WorkHasRoom parts work
PieceHasRoom parts is.Shut piece = Unit {0}
PieceHasRoom parts (is.Faulted fault) piece = Unit {0}
