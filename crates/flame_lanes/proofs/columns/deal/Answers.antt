use Rattle.std.proofs.Common.{◌≡◌, ◌<◌, ◌∷◌, ◌∙◌, [], List, Vec, length, get_or, set, ap, sym, subst, arith, length-append}
use Rattle.std.specs.Global.{Global}
use Rattle.flame_board.specs.declared.lanes.Lane.{Lane}
use Rattle.flame_lanes.proofs.Columned.{AreBegun, begun-all, begun-length, begun-next, begun-taken}
use Rattle.flame_lanes.proofs.columns.deal.Goals as goal

pub unreachable-requires : goal.unreachable-requires
unreachable-requires c =
    let b = c.loop-place in
    let all = c.args.columns.now.items in
    let own = c.index_mut.result.now in
    let same = begun-length b.columns.items b.row.items all b.invariant.begun in
    let less : b.place < length all = omega (arith, c.loop-place-test.true, c.len-place-end.ensures, c.args.columns.now.ok.0) in
    let at : own ≡ get_or all b.place own =
    c.index_mut.ensures.value
    ∙ begun-next b.columns.items b.row.items all b.place own b.invariant.begun b.invariant.long (omega (arith, less, same)) in
    omega (
      arith,
      c.requires b.place own less,
      ap (λ (v : Vec Lane Global). length v.items) at,
      c.in-None.ensures.cases.0,
      own.ok.0,
    )

pub loop-place-preserved : goal.loop-place-preserved
loop-place-preserved c =
    let b = c.loop-place in
    let all = c.args.columns.now.items in
    let lane = c.in-Some.lane in
    let pushed = c.in_ok-push-in-Some.ensures.items in
    let same = begun-length b.columns.items b.row.items all b.invariant.begun in
    let less : b.place < length b.columns.items =
    omega (arith, c.loop-place-test.true, c.len-place-end.ensures, c.args.columns.now.ok.0, same) in
    record {
      begun = subst (λ (row : List Lane). AreBegun (set b.columns.items b.place c.pop.new.self) row all) (sym pushed)
          (begun-taken b.columns.items b.row.items all b.place lane c.index_mut.result.now c.pop.new.self
          b.invariant.begun b.invariant.long less c.index_mut.ensures.value c.in-Some.ensures.items);
      long = omega (arith, ap (length {A = Lane}) pushed, length-append b.row.items (lane ∷ []), b.invariant.long);
    }

pub returns : goal.returns
returns c =
    let b = c.loop-place in
    let all = c.args.columns.now.items in
    let same = begun-length b.columns.items b.row.items all b.invariant.begun in
    begun-all b.columns.items b.row.items all b.invariant.begun
    (omega (arith, b.invariant.long, same, c.loop-place-test.false, b.auto.place-end, c.len-place-end.ensures, c.args.columns.now.ok.0))
