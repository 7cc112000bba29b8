-- How ways are kept.
use Rattle.std.specs.Prelude.{ℕ, List, [], ◌∷◌, ◌++◌, map, Bool, ◌==◌, ◌&&◌, slice_index_or, slice_set}
use Rattle.std.specs.List.{list_any}
use Rattle.flame_spec.specs.declared.models.Model.{Model}
use Rattle.flame_depend.specs.declared.pairs.Edge.{Edge}
use Rattle.flame_flow.specs.Goings.{AreWaysOf}
use Rattle.flame_flow.specs.declared.ways.Ways.{Ways}

-- an edge leads from the one function to the other [own]
abbrev pub has_edge : ℕ → ℕ → List Edge → Bool
has_edge function other edges = list_any (λ edge. (edge.before == function) && (edge.after == other)) edges

-- the number joined the list at this place [own]
abbrev pub with_added : ℕ → ℕ → List (List ℕ) → List (List ℕ)
with_added place number lists = slice_set lists place (slice_index_or lists place [] ++ number ∷ [])

-- they are those of the model [own]
abbrev pub IsWaysOf : Model → Ways → Type 0
IsWaysOf model ways = AreWaysOf model ways.ranks.items (map (λ list. list.items) ways.next.items)
