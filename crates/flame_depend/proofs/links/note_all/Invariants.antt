use Rattle.std.proofs.Common.{◌≡◌, ℕ, List, take}
use Rattle.std.specs.Prelude.{◌==◌, ◌&&◌, ◌||◌}
use Rattle.std.specs.List.{list_any}
use Rattle.std.specs.Str.{bytes_eq}
use Rattle.flame_spec.specs.Below.{is_in}
use Rattle.flame_depend.specs.FunctionTables.{listed}
use Rattle.flame_depend.proofs.links.note_all.Given as goal

abbrev pub invariant-loop-name : goal.invariant-loop-name
invariant-loop-name l = (q : List ℕ) (f : ℕ) → is_in f (listed l.table q) ≡ (is_in f (listed l.initial.table q) || ((l.function == f) && list_any (bytes_eq q) (take l.name-index l.names)))
