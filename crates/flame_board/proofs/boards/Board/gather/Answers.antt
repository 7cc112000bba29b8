use Rattle.std.proofs.Common.{◌≡◌, ◌+◌, ◌++◌, ◌∷◌, ◌∙◌, [], List, ap, arith, subst, sym}
use Rattle.std.specs.Prelude.{ℤ}
use Rattle.std.specs.List.{flat_map}
use Rattle.flame_rows.specs.Bags.{merge_all, weigh}
use Rattle.flame_rows.proofs.BagLaws.{IsAscending-ascending, weigh-append, weigh-ascending}
use Rattle.flame_board.specs.LaneParts.{weigh_bags}
use Rattle.flame_board.specs.SeenLanes.{AreEndsOf, weigh_lanes}
use Rattle.flame_board.proofs.Weights.{all-together}
use Rattle.flame_board.proofs.boards.Board.gather.Goals as goal

pub take_lanes-requires : goal.take_lanes-requires
take_lanes-requires g c = subst (AreEndsOf c.args.self.ends.items) (sym c.into_items.ensures) c.requires.all

pub returns : goal.returns
returns g c =
    let bags = c.take_lanes.new.bags.items in
    let rows = flat_map (λ bag. bag) bags in
    let before = c.args.self.before in
    let one : c.push.new.self.items ≡ before ∷ [] =
    c.in_ok-push.ensures.items ∙ ap (λ (list : List (List (List ℤ))). list ++ before ∷ []) c.new-bags.ensures.items in
    all-together (merge_all bags) before c.args.lanes (IsAscending-ascending rows)
    (λ weight.
    let first : weigh_bags weight c.push.new.self.items ≡ weigh weight (before ++ []) = ap (weigh_bags weight) one in
    let taken : weigh_bags weight bags ≡ weigh_bags weight c.push.new.self.items + weigh_lanes weight c.into_items.result.items =
    c.in_ok-take_lanes.ensures weight in
    let lanes : weigh_lanes weight c.into_items.result.items ≡ weigh_lanes weight c.args.lanes =
    ap (weigh_lanes weight) c.into_items.ensures in
    let all : weigh weight (merge_all bags) ≡ weigh_bags weight bags = weigh-ascending weight rows in
    omega (arith, all, taken, lanes, first, weigh-append weight before []))
