-- The text of `graph`: the functions in the order in which they run, and which stands before which.
use Rattle.std.specs.Prelude.{ℕ, List, ◌++◌, slice_index, codes, decimal}
use Rattle.std.specs.List.{flat_map}
use Rattle.flame_spec.specs.declared.models.Model.{Model}
use Rattle.flame_spec.specs.Functions.{Place, functions}
use Rattle.flame_spec.specs.Layers.{model_layers}
use Rattle.flame_spec.specs.Lists.{each}
use Rattle.flame_spec.specs.ModelOrder.{model_order}
use Rattle.flame_depend.specs.declared.pairs.Edge.{Edge}
use Rattle.flame_depend.specs.Edges.{edges_of}
use Rattle.flame_report.specs.LineParts.{name_among}

-- RANK LAYER Type.function, of these functions with their layers [own]
abbrev pub rank_line : List Place → List ℕ → ℕ → ℕ → List ℕ
rank_line places layers rank function =
    decimal rank
    ++ codes " " ++ decimal (slice_index layers function)
    ++ codes " " ++ name_among places function
    ++ codes "\n"

-- before Type.f Type.g, of these functions [own]
abbrev pub before_line : List Place → ℕ → ℕ → List ℕ
before_line places f g =
    codes "before " ++ name_among places f
    ++ codes " " ++ name_among places g
    ++ codes "\n"

-- the line of an edge [own]
abbrev pub edge_line : List Place → Edge → List ℕ
edge_line places edge = before_line places edge.before edge.after

-- the functions of the model in the order in which they run, and then which stands before which [own]
abbrev pub graph_lines : Model → List ℕ
graph_lines model =
    each (rank_line (functions model) (model_layers model)) (model_order model)
    ++ flat_map (edge_line (functions model)) (edges_of model)
