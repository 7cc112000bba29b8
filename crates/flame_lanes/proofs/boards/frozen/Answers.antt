use Rattle.std.proofs.Common.{◌≡◌, ◌∙◌, ◌∷◌, ap, subst, sym}
use Rattle.flame_rows.specs.Bags.{merge_all}
use Rattle.flame_board.specs.SeenBoards.{AreLanesOf, before_of}
use Rattle.flame_board.specs.SeenLanes.{bags_of}
use Rattle.flame_lanes.proofs.boards.frozen.Goals as goal

pub gather-requires : goal.gather-requires
gather-requires g c = record { all = subst (AreLanesOf c.args.board) (sym c.of.ensures) c.requires }

pub returns : goal.returns
returns g c =
    c.of-2.ensures.messages
    ∙ c.in_ok-bag.ensures
    ∙ c.in_ok-bags.ensures
    ∙ ap (λ lanes. merge_all (before_of c.args.board ∷ bags_of lanes)) c.of.ensures
