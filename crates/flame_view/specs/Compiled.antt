-- Views by columns: under a filter and a key that were read.
use Rattle.std.specs.Prelude.{◌≡◌, ℤ, List, Bool, true, Option, Some, None, option_map}
use Rattle.std.specs.List.{filter}
use Rattle.flame_spec.specs.declared.conditions.Condition.{Condition}
use Rattle.flame_spec.specs.declared.models.AgentType.{AgentType}
use Rattle.flame_spec.specs.declared.models.MessageType.{MessageType}
use Rattle.flame_spec.specs.declared.models.Sort.{Sort}
use Rattle.flame_spec.specs.Views.{view, view_of}
use Rattle.flame_cond.specs.declared.keys.SortBy.{SortBy}
use Rattle.flame_cond.specs.declared.forms.Test.{Test}
use Rattle.flame_cond.specs.Said.{passes, key_by, IsFilterOf, IsKeyOf}

-- which rows pass with this memory: without a filter all [own]
abbrev pub is_read_by : Option Test → List ℤ → List ℤ → Bool
is_read_by None memory row = true
is_read_by (Some filter) memory row = passes filter memory row

-- the rows that pass, in the order in which they stand [own]
abbrev pub picked_by : Option Test → List ℤ → List (List ℤ) → List (List ℤ)
picked_by test memory rows = filter (is_read_by test memory) rows

-- the view of a board: the rows that pass, each as often as it stands there, in the order of the key [own]
abbrev pub view_by : Option Test → Option SortBy → List ℤ → List (List ℤ) → List (List ℤ)
view_by filter sort memory board = view (is_read_by filter memory) (option_map key_by sort) board

-- ---- the natural sentence

-- under a filter and a key that were read from what is written, the view by columns is the view by names [own]
abbrev pub ViewIsAsWritten : Type 0
ViewIsAsWritten =
    (agent : AgentType) (message : MessageType) (condition : Option Condition) (sort : Option Sort)
    (filter : Option Test) (by : Option SortBy) (memory : List ℤ) (board : List (List ℤ))
    → IsFilterOf filter condition agent message
    → IsKeyOf by sort message
    → view_by filter by memory board ≡ view_of agent message condition sort memory board
