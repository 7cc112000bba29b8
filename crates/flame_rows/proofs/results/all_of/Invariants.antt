use Rattle.std.proofs.Common.{◌≡◌, ◌++◌, map}
use Rattle.std.specs.Prelude.{Ok}
use Rattle.flame_rows.proofs.results.all_of.Given as goal

abbrev pub invariant-loop-result : goal.invariant-loop-result
invariant-loop-result g l = map Ok l.values.items ++ l.result-iterator.rest.items ≡ l.fn.results.items
