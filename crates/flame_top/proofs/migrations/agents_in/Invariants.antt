-- The agents of the types so far.
use Rattle.std.proofs.Common.{◌≡◌, take}
use Rattle.flame_popfile.specs.IterationTexts.{rows_in}
use Rattle.flame_top.proofs.migrations.agents_in.Given as goal

abbrev pub invariant-loop-bag : goal.invariant-loop-bag
invariant-loop-bag l = l.agents ≡ rows_in (take l.bag-index l.bags)
