use Rattle.std.proofs.Common.{ap}
use Rattle.flame_index.specs.FrozenBoards.{FrozenBoard}
use Rattle.flame_field.proofs.Wanted.{board-keeps}
use Rattle.flame_field.proofs.boards.Board.make_shared.Goals as goal

pub returns-in_err-shared-clause-keeps : goal.returns-in_err-shared-clause-keeps
returns-in_err-shared-clause-keeps c =
    board-keeps c.args.wants.now c.args.self.now c.in-Frozen.board c.moved.new.board.kept c.keep-kept.new.board.kept c.in-Frozen.is
    (ap (λ (b : FrozenBoard). b.kept) c.in_err-shared.ensures.err) c.keep-kept.ensures.keeps

pub returns-in_ok-shared-clause-keeps : goal.returns-in_ok-shared-clause-keeps
returns-in_ok-shared-clause-keeps c =
    board-keeps c.args.wants.now c.args.self.now c.in-Frozen.board c.in_ok-shared.shared.value.kept c.keep-kept.new.board.kept c.in-Frozen.is
    (ap (λ (b : FrozenBoard). b.kept) c.in_ok-shared.ensures.ok) c.keep-kept.ensures.keeps
