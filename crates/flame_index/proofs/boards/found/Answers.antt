use Rattle.std.proofs.Common.{sym, ap, ◌∙◌}
use Rattle.flame_cond.specs.Said.{key_by}
use Rattle.flame_index.specs.FrozenBoards.{is_same_key}
use Rattle.flame_index.proofs.KeptKeys.{found_there, found_none}
use Rattle.flame_index.proofs.boards.found.Goals as goal

pub returns-then-is_same-clause-there : goal.returns-then-is_same-clause-there
returns-then-is_same-clause-there c =
    let key = key_by c.args.by in
    found_there key c.args.indexes.now c.loop-kept.kept-index c.kept-item.result c.loop-kept-test.true c.kept-item.is
    (ap (is_same_key key) (sym c.key.ensures) ∙ sym c.is_same.ensures ∙ c.if-is_same.true)

pub returns-clause-there : goal.returns-clause-there
returns-clause-there c =
    found_none (key_by c.args.by) c.args.indexes.now c.loop-kept.kept-index c.loop-kept-test.false c.loop-kept.invariant
