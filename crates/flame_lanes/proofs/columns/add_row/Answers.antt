use Rattle.std.proofs.Common.{◌≡◌, ℕ, ◌<◌, ◌++◌, ◌∷◌, ◌∙◌, [], List, map, length, refl, set, ap, sym, subst, arith, append-nil, append_assoc, length-append}
use Rattle.std.specs.Vec.Iter.{into_iter_items}
use Rattle.std.proofs.lemmas.List.{map-append, nil_from_length}
use Rattle.flame_board.specs.declared.lanes.Lane.{Lane}
use Rattle.flame_lanes.specs.LaneColumns.{AreLongerBy}
use Rattle.flame_lanes.proofs.Columned.{AreBegun, begun-all, begun-length, begun-more, row-place}
use Rattle.flame_lanes.proofs.columns.add_row.Goals as goal

abbrev lane_of : ℕ × Lane → Lane
lane_of one = one.1

pub loop-place-init : goal.loop-place-init
loop-place-init c =
    let it = c.into_iter-place-iterator.ensures.into_iter_gives in
    record {
      begun = refl;
      rest = ap (λ z. z.iter.rest.items) it ∙ ap (λ z. z.rest.items) c.enumerate-place-items.ensures.source ∙ c.into_iter.ensures.rest;
      count = omega (arith, ap (λ z. z.count) it, c.enumerate-place-items.ensures.count);
    }

pub index_mut-requires : goal.index_mut-requires
index_mut-requires c =
    let b = c.loop-place in
    let steps = c.in-Some.ensures.steps in
    let done : List Lane = map lane_of b.yielded in
    let less = row-place done (into_iter_items b.place-iterator.iter) (into_iter_items c.next.new.self.iter) c.args.row.items
    c.in-Some.lane c.args.columns.now.items b.columns.items c.in-Some.place b.invariant.rest steps.0.0 c.requires
    b.invariant.begun (steps.1 ∙ sym b.invariant.count) in
    omega (arith, less, b.columns.ok.0)

pub loop-place-preserved : goal.loop-place-preserved
loop-place-preserved c =
    let b = c.loop-place in
    let steps = c.in-Some.ensures.steps in
    let lane = c.in-Some.lane in
    let place = c.in-Some.place in
    let row = c.args.row.items in
    let olds = c.args.columns.now.items in
    let done : List Lane = map lane_of b.yielded in
    let left = into_iter_items b.place-iterator.iter in
    let rest = into_iter_items c.next.new.self.iter in
    let at : place ≡ length done = steps.1 ∙ sym b.invariant.count in
    let less : place < length b.columns.items =
    row-place done left rest row lane olds b.columns.items place b.invariant.rest steps.0.0 c.requires b.invariant.begun at in
    let more : map lane_of (b.yielded ++ (place, lane) ∷ []) ≡ done ++ lane ∷ [] = map-append lane_of b.yielded ((place, lane) ∷ []) in
    record {
      begun = subst (λ (l : List Lane). AreBegun olds l (set b.columns.items place c.push.new.self)) (sym more)
          (begun-more olds done b.columns.items place lane c.index_mut.result.now c.push.new.self b.invariant.begun (sym at)
          less c.index_mut.ensures.value c.in_ok-push.ensures.items);
      rest = ap (λ (l : List Lane). l ++ rest) more ∙ append_assoc done (lane ∷ []) rest
          ∙ ap (λ (l : List Lane). done ++ l) (sym steps.0.0) ∙ b.invariant.rest;
      count = omega (arith, ap (length {A = Lane}) more, length-append done (lane ∷ []), b.invariant.count, steps.2);
    }

pub returns-clause-longer : goal.returns-clause-longer
returns-clause-longer c =
    let b = c.loop-place in
    let it = b.place-iterator.iter in
    let row = c.args.row.items in
    let done : List Lane = map lane_of b.yielded in
    let none : into_iter_items it ≡ [] = nil_from_length (into_iter_items it) (omega (arith, it.rest.ok.0, c.in-None.ensures.steps.0.0)) in
    let whole : done ≡ row =
    sym (append-nil done) ∙ ap (λ (l : List Lane). done ++ l) (sym none) ∙ b.invariant.rest in
    subst (λ (l : List Lane). AreLongerBy c.args.columns.now.items l b.columns.items) whole
    (begun-all c.args.columns.now.items done b.columns.items b.invariant.begun (ap length whole ∙ c.requires))

pub returns-clause-width : goal.returns-clause-width
returns-clause-width c =
    sym (begun-length c.args.columns.now.items (map lane_of c.loop-place.yielded) c.loop-place.columns.items c.loop-place.invariant.begun)
