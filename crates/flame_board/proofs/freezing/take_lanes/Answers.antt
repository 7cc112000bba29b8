use Rattle.std.proofs.Common.{◌≡◌, ◌∙◌, ◌⊎◌, [], ap, arith, inl, inr, length, ⊎_elim, refl}
use Rattle.flame_board.specs.SeenLanes.{weigh_lanes}
use Rattle.flame_board.proofs.EndLists.{ends-first, none-left}
use Rattle.flame_board.proofs.freezing.take_lanes.Goals as goal

pub loop-end-init : goal.loop-end-init
loop-end-init g c =
    let it = c.into_iter-end-iterator.ensures.into_iter_gives in
    let a : c.into_iter-end-iterator.result.a.rest.items ≡ c.args.ends.items =
    ap (λ z. z.a.rest.items) it ∙ ap (λ z. z.rest.items) c.zip-end-items.ensures.first ∙ c.into_iter.ensures.rest in
    let b : c.into_iter-end-iterator.result.b.rest.items ≡ c.args.lanes.items =
    ap (λ z. z.b.rest.items) it ∙ c.zip-end-items.ensures.second.0 in
    rw (a, b) (record { ends = c.requires; rows = λ weight. refl })

pub take_lane-requires : goal.take_lane-requires
take_lane-requires g c =
    (ends-first _ _ _ _ _ _ c.loop-end.invariant.ends c.in-Some.ensures.steps.0.0 c.in-Some.ensures.steps.1.0).0

pub loop-end-preserved : goal.loop-end-preserved
loop-end-preserved g c =
    let steps = c.in-Some.ensures.steps in
    record {
      ends = (ends-first _ _ _ _ _ _ c.loop-end.invariant.ends steps.0.0 steps.1.0).1;
      rows = λ weight. omega (
        arith,
        c.loop-end.invariant.rows weight,
        c.in_ok-take_lane.ensures weight,
        ap (weigh_lanes weight) steps.1.0,
      );
    }

pub returns : goal.returns
returns g c =
    let it = c.loop-end.end-iterator in
    let over : (length it.a.rest.items ≡ 0) ⊎ (length it.b.rest.items ≡ 0) = ⊎_elim
    (λ (h : (y : _) × ((it.a.rest.len ≡ 0) × (y.rest.len ≡ 0))). inl (omega (arith, it.a.rest.ok.0, h.1.0)))
    (λ (h : (y : _) × ((it.b.rest.len ≡ 0) × (y.rest.len ≡ 0))). inr (omega (arith, it.b.rest.ok.0, h.1.0)))
    c.in-None.ensures.steps in
    let none : it.b.rest.items ≡ [] = none-left it.a.rest.items it.b.rest.items c.loop-end.invariant.ends over in
    λ weight. omega (arith, c.loop-end.invariant.rows weight, ap (weigh_lanes weight) none)
