use Rattle.std.proofs.Common.{ap, ◌∙◌, sym}
use Rattle.flame_rows.specs.Bags.{ascending}
use Rattle.flame_rows.proofs.Merging.{ascending-ascending}
use Rattle.flame_field.specs.KeptBoards.{board_bag}
use Rattle.flame_field.proofs.boards.Board.freeze.Goals as goal

pub returns-in-Gathering-clause-bag : goal.returns-in-Gathering-clause-bag
returns-in-Gathering-clause-bag c =
    ap ascending (c.of.ensures.messages ∙ c.gathered.ensures)
    ∙ ascending-ascending c.replace-gathered.result.items
    ∙ ap (λ rows. ascending rows.items) c.replace-gathered.ensures.value
    ∙ sym (ap board_bag c.in-Gathering.is)
