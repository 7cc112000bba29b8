use Rattle.std.proofs.Common.{◌≡◌, ℕ, ◌<◌, [], length, take, get_or}
use Rattle.flame_spec.specs.Below.{is_in}
use Rattle.flame_graph.specs.Marks.{marked_where}
use Rattle.flame_depend.proofs.links.mark_all.Given as goal

abbrev pub invariant-loop-source : goal.invariant-loop-source
invariant-loop-source l = (f : ℕ) → f < length l.lists → get_or l.lists f [] ≡ marked_where l.function (is_in f (take l.source-index l.sources)) (get_or l.initial.lists f [])
