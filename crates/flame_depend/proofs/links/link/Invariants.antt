use Rattle.std.proofs.Common.{◌≡◌, ℕ, ◌<◌, [], length, take, get_or}
use Rattle.std.specs.Prelude.{◌||◌}
use Rattle.std.specs.List.{list_any}
use Rattle.flame_spec.specs.Below.{is_in}
use Rattle.flame_graph.specs.Marks.{marked_where}
use Rattle.flame_depend.specs.FunctionTables.{listed}
use Rattle.flame_depend.proofs.links.link.Given as goal

abbrev pub invariant-loop-input : goal.invariant-loop-input
invariant-loop-input l = (f : ℕ) → f < length l.lists → get_or l.lists f [] ≡ marked_where l.function (is_in f (listed l.entering l.place.function.now.current) || list_any (λ input. is_in f (listed l.adding input.message)) (take l.input-index l.place.function.now.inputs)) (get_or l.fn.lists f [])
