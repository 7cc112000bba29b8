use Rattle.std.proofs.Common.{◌≡◌, take, map}
use Rattle.std.specs.Option.{option_copied}
use Rattle.flame_view.specs.Compiled.{picked_by}
use Rattle.flame_view.proofs.picks.picked.Given as goal

abbrev pub invariant-loop-place : goal.invariant-loop-place
invariant-loop-place l =
    map (λ row. row.now) l.picked.items ≡ picked_by (option_copied l.filter) l.memory (take l.place l.rows)
