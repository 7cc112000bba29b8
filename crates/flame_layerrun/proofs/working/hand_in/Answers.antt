use Rattle.std.proofs.Common.{◌≡◌, ◌<◌, ◌++◌, ◌∷◌, [], length, get_or, sym, subst, arith, rules}
use Rattle.flame_board.specs.declared.lanes.Lane.{Lane}
use Rattle.flame_board.specs.SeenBoards.{IsLaneOf}
use Rattle.flame_board.specs.SeenLanes.{IsSameLane, parts_of}
use Rattle.flame_layerrun.proofs.LongerLanes.{longer-part, own-at}
use Rattle.flame_layerrun.proofs.working.hand_in.Goals as goal

pub hand_in-requires : goal.hand_in-requires
hand_in-requires g c =
    let boards = c.args.floor.now.boards.now in
    let lanes = c.args.lanes.now.items in
    let place = c.place-place.result in
    let board = c.index-floor-place.result in
    let lane = c.index_mut.result.now in
    let less : place < length lanes = omega (arith, c.place-place.ensures.below, c.requires.long) in
    let is : get_or lanes place lane ≡ lane = search rules in
    record {
      own = subst (λ (l : Lane). IsLaneOf (get_or boards place board) l) is
          (own-at boards lanes place board lane c.requires.own less);
    }

pub returns : goal.returns
returns g c =
    let lanes = c.args.lanes.now.items in
    let place = c.place-place.result in
    let lane = c.index_mut.result.now in
    let is : get_or lanes place lane ≡ lane = search rules in
    let same : IsSameLane (get_or lanes place lane) c.hand_in.new.lane =
    subst (λ (l : Lane). IsSameLane l c.hand_in.new.lane) (sym is) c.hand_in.ensures.same in
    let more : parts_of c.hand_in.new.lane ≡ parts_of (get_or lanes place lane) ++ c.args.part ∷ [] =
    subst (λ (l : Lane). parts_of c.hand_in.new.lane ≡ parts_of l ++ c.args.part ∷ []) (sym is) c.in_ok-hand_in.ensures.added in
    record {
      longer = longer-part c.args.part c.args.floor.now.messages.now lanes place lane c.hand_in.new.lane
          c.place-place.ensures.there c.place-place.ensures.only c.requires.long same more;
    }
