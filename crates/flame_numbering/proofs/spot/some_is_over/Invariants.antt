use Rattle.std.proofs.Common.{◌≡◌, drop}
use Rattle.std.specs.List.{list_any}
use Rattle.flame_spec.specs.Scopes.{is_over}
use Rattle.flame_numbering.specs.SightTables.{loop_of}
use Rattle.flame_numbering.proofs.spot.some_is_over.Given as goal

abbrev pub invariant-loop-over : goal.invariant-loop-over
invariant-loop-over l =
    list_any (λ over. is_over l.message (loop_of over)) l.loops
    ≡ list_any (λ over. is_over l.message (loop_of over)) (drop l.over-index l.loops)
