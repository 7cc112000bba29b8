use Rattle.std.proofs.Common.{◌≡◌, take}
use Rattle.flame_rows.proofs.copies.SeqCopied.copy.Given as goal

abbrev pub invariant-loop-item : goal.invariant-loop-item
invariant-loop-item g l = l.copies.items ≡ take l.item-index l.item-items
