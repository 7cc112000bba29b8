use Rattle.std.proofs.Common.{◌≡◌, ◌++◌, take}
use Rattle.flame_nest.proofs.copies.put_texts.Given as goal

abbrev pub invariant-loop-text : goal.invariant-loop-text
invariant-loop-text l = l.put.items ≡ l.fn.put.items ++ take l.text-index l.texts
