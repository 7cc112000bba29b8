use Rattle.std.proofs.Common.{◌≡◌, false, take}
use Rattle.std.specs.List.{list_any}
use Rattle.flame_cond.specs.Said.{key_by}
use Rattle.flame_index.specs.FrozenBoards.{is_same_key}
use Rattle.flame_index.proofs.boards.found.Given as goal

abbrev pub invariant-loop-kept : goal.invariant-loop-kept
invariant-loop-kept l = list_any (λ index. is_same_key (key_by l.by) index.key) (take l.kept-index l.indexes) ≡ false
