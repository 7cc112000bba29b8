use Rattle.std.proofs.Common.{◌≡◌, ◌∙◌, ◌<◌, [], ◌∷◌, List, ap, sym, subst, arith, length, map, refl, suc}
use Rattle.std.specs.List.{All}
use Rattle.std.specs.Vec.Iter.{into_iter_items}
use Rattle.std.proofs.lemmas.List.{length-set, nil_from_length}
use Rattle.flame_rows.specs.Bags.{merge}
use Rattle.flame_spec.specs.declared.outcomes.Sent.{Sent}
use Rattle.flame_world.specs.AgentRuns.{messages_of}
use Rattle.flame_world.specs.Fields.{joined}
use Rattle.flame_field.specs.KeptBoards.{board_bag}
use Rattle.flame_field.proofs.Changed.{map-written}
use Rattle.flame_field.proofs.Gathered.{board-in_order}
use Rattle.flame_field.proofs.Joining.{joined-message, joined-nothing}
use Rattle.flame_field.proofs.fields.send.Goals as goal

pub loop-message-preserved : goal.loop-message-preserved
loop-message-preserved c =
    let messages = into_iter_items c.loop-message.message-iterator in
    let rest = into_iter_items c.next.new.self in
    let message = c.in-Some.message in
    let old = c.loop-message.invariant in
    let steps = c.in-Some.ensures.steps in
    let all : All (λ (b : Sent). b.message < length c.args.boards.now.items) (message ∷ rest) =
    subst (λ (list : List Sent). All (λ (b : Sent). b.message < length c.args.boards.now.items) list) steps.0 old.within in
    let here : message.message < length c.loop-message.boards.items = omega (arith, all 0 message (omega arith), old.count) in
    record {
      counted = omega (arith, steps.1, ap length steps.0, old.counted);
      count = length-set c.loop-message.boards.items message.message _ ∙ old.count;
      within = λ k d less. all (suc k) d (omega (arith, less));
      joins =
          ap (joined (messages_of rest))
          (map-written board_bag (λ bag. merge bag (message.row ∷ [])) c.loop-message.boards.items message.message c.index_mut.result.now
          _ here c.index_mut.ensures.value c.in_ok-add.ensures)
          ∙ sym (joined-message message rest (map board_bag c.loop-message.boards.items))
          ∙ ap (λ (list : List Sent). joined (messages_of list) (map board_bag c.loop-message.boards.items)) (sym steps.0)
          ∙ old.joins;
    }

pub returns : goal.returns
returns c =
    let old = c.loop-message.invariant in
    let messages = into_iter_items c.loop-message.message-iterator in
    let none : messages ≡ [] = nil_from_length messages (sym old.counted ∙ c.in-None.ensures.steps.0) in
    sym (joined-nothing board_bag board-in_order (messages_of []) (λ n. refl) c.loop-message.boards.items)
    ∙ ap (λ (list : List Sent). joined (messages_of list) (map board_bag c.loop-message.boards.items)) (sym none)
    ∙ old.joins
