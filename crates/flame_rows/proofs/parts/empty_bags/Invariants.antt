use Rattle.std.proofs.Common.{◌≡◌, [], replicate}
use Rattle.flame_rows.proofs.parts.empty_bags.Given as goal

abbrev pub invariant-loop-bag : goal.invariant-loop-bag
invariant-loop-bag l = l.bags.items ≡ replicate l._bag []
