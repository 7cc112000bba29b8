use Rattle.std.proofs.Common.{◌≡◌, ◌++◌, map, drop}
use Rattle.flame_lookup.specs.WordTables.{numbers_under}
use Rattle.flame_route.proofs.leaving.lists_of.Given as goal

abbrev pub invariant-loop-state : goal.invariant-loop-state
invariant-loop-state l =
    l.lists.items ++ map (λ state. numbers_under l.table state.now) (drop l.state-index l.states)
    ≡ map (λ state. numbers_under l.table state.now) l.states
