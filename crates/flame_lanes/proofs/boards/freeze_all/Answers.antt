use Rattle.std.proofs.Common.{◌<◌, ◌+◌, ◌∷◌, ◌∙◌, ℕ, List, ap, arith, length, subst, suc}
use Rattle.std.specs.List.{All}
use Rattle.std.specs.Vec.Iter.{into_iter_items, into_iter_len}
use Rattle.std.specs.Iterator.Adapters.{zip_first, zip_second}
use Rattle.std.specs.Slice.Iter.{iter_rest}
use Rattle.std.proofs.lemmas.List.{length-set}
use Rattle.flame_lanes.specs.LayerBoards.{weigh_before, weigh_columns}
use Rattle.flame_lanes.proofs.BoardWeights.{all-over, frozen-next, frozen-over, own-first}
use Rattle.flame_lanes.proofs.boards.freeze_all.Goals as goal

pub loop-message-preserved : goal.loop-message-preserved
loop-message-preserved g c =
    let kept = c.loop-message.invariant in
    let steps = c.in-Some.ensures.steps in
    let rest = iter_rest (zip_first c.next.new.self) in
    let own = c.in-Some.message.now in
    let within = c.args.field.now.items in
    let fields = c.loop-message.field.items in
    let there : All (λ message. message < length within) (own ∷ rest) =
    subst (λ (ms : List ℕ). All (λ message. message < length within) ms) steps.0 kept.there in
    let here : own < length fields = omega (arith, there 0 own (omega arith), kept.count) in
    record {
      boards_counted = omega (arith, steps.1.0.1, ap length steps.1.0.0, kept.boards_counted);
      columns_counted = omega (arith, steps.1.1.1, ap length steps.1.1.0, kept.columns_counted);
      there = λ k d less. there (suc k) d (omega (arith, less));
      long = omega (arith, ap length steps.0, ap length steps.1.0.0, kept.long);
      own = (own-first _ _ _ _ _ _ kept.own steps.1.0.0 steps.1.1.0).1;
      count = length-set fields own c.freeze_into.new.into ∙ kept.count;
      moved = λ message weight.
          frozen-next weight message fields _ _ own _ _ _ _ _ _ c.index_mut.result.now c.freeze_into.new.into _ steps.0
          steps.1.0.0 steps.1.1.0 here c.index_mut.ensures.value (c.in_ok-freeze_into.ensures weight)
          (kept.moved message weight);
    }

pub returns-clause-moved : goal.returns-clause-moved
returns-clause-moved g c = λ message weight.
    let kept = c.loop-message.invariant in
    let it = c.loop-message.message-iterator in
    let messages = iter_rest (zip_first it) in
    let boards = into_iter_items (zip_first (zip_second it)) in
    let columns = into_iter_items (zip_second (zip_second it)) in
    frozen-over messages boards columns message weight c.loop-message.field.items c.args.field.now.items
    (weigh_before c.args.messages.now c.args.boards.items message weight
    + weigh_columns c.args.messages.now c.args.columns.items message weight)
    (all-over messages boards columns (into_iter_len (zip_first (zip_second it))) (into_iter_len (zip_second (zip_second it)))
    kept.boards_counted kept.columns_counted kept.long kept.own c.in-None.ensures.steps)
    (kept.moved message weight)
