-- One turn more.
use Rattle.std.proofs.Common.{◌≡◌, ℕ, [], ◌∷◌, ◌++◌, ◌+◌, ◌-◌, ◌<◌, List, length, ap, sym, ◌∙◌, subst, arith, slice_index}
use Rattle.std.specs.Prelude.{◌==◌, ◌&&◌, ◌||◌}
use Rattle.std.specs.List.{All}
use Rattle.flame_rows.proofs.Lists.{take-written}
use Rattle.flame_spec.specs.Below.{all_below, is_in, times}
use Rattle.flame_spec.specs.ModelOrder.{with_next, order_after}
use Rattle.flame_spec.proofs.Orders.{next_is_next, order_push, IsOrder}
use Rattle.flame_graph.specs.Graph.{follows, AreWaiting}
use Rattle.flame_graph.proofs.Counting.{below_all}
use Rattle.flame_graph.proofs.Following.{list_is}
use Rattle.flame_graph.proofs.Turns.{AreReady, next_none, next_some, turn_enough, turn_counts, turn_ready, order_more, order_end}
use Rattle.flame_graph.proofs.Walking.{whole_waiting, left_waits}
use Rattle.flame_graph.proofs.order.put_in_order.Goals as goal

pub returns-in-None-clause-order : goal.returns-in-None-clause-order
returns-in-None-clause-order c =
    let n = length c.args.lists.now in
    let before = follows c.args.lists.now in
    let fs = c.loop-turn.order.items in
    let i = c.loop-turn.invariant in
    sym (i.rest ∙ order_more n c.loop-turn._turn before fs c.loop-turn-test.true ∙ ap (λ o. with_next o fs (order_after (n - (c.loop-turn._turn + 1)) n before)) (next_none n before fs c.loop-turn.ready i.ready c.in-None.ensures))

pub returns-in-None-clause-waiting : goal.returns-in-None-clause-waiting
returns-in-None-clause-waiting c =
    let n = length c.args.lists.now in
    whole_waiting n (follows c.args.lists.now) c.loop-turn.order.items c.loop-turn.waiting.items (returns-in-None-clause-order c) c.loop-turn.invariant.counts

pub returns-in-None-clause-left : goal.returns-in-None-clause-left
returns-in-None-clause-left c =
    let n = length c.args.lists.now in
    left_waits n (follows c.args.lists.now) c.loop-turn.order.items c.loop-turn.waiting.items (returns-in-None-clause-order c) c.loop-turn.invariant.counts

pub returns-clause-left : goal.returns-clause-left
returns-clause-left c =
    let n = length c.args.lists.now in
    let before = follows c.args.lists.now in
    let fs = c.loop-turn.order.items in
    let i = c.loop-turn.invariant in
    left_waits n before fs c.loop-turn.waiting.items (sym (i.rest ∙ order_end n c.loop-turn._turn before fs (omega (arith, c.loop-turn-test.false)))) i.counts

pub settle-requires-clause-within : goal.settle-requires-clause-within
settle-requires-clause-within c =
    let n = length c.args.lists.now in
    let before = follows c.args.lists.now in
    let i = c.loop-turn.invariant in
    let now = next_is_next n before c.loop-turn.order.items c.in-Some.next (next_some n before c.loop-turn.order.items c.loop-turn.ready c.in-Some.next c.take.new.self i.ready c.in-Some.ensures) in
    let list = list_is c.args.lists.now c.in-Some.next c.index-lists-next.result c.numbers.result.now c.requires.ascending now.below c.index-lists-next.is c.numbers.ensures in
    let P : List ℕ → Type 0 = All (λ g. g < n) in
    λ k d l. omega (arith, subst P (sym list) (below_all (before c.in-Some.next) n) k d l, c.deref_mut.ensures.len, i.counts.len)

pub settle-requires-clause-enough : goal.settle-requires-clause-enough
settle-requires-clause-enough c = λ g l.
    let n = length c.args.lists.now in
    let before = follows c.args.lists.now in
    let i = c.loop-turn.invariant in
    let now = next_is_next n before c.loop-turn.order.items c.in-Some.next (next_some n before c.loop-turn.order.items c.loop-turn.ready c.in-Some.next c.take.new.self i.ready c.in-Some.ensures) in
    let list = list_is c.args.lists.now c.in-Some.next c.index-lists-next.result c.numbers.result.now c.requires.ascending now.below c.index-lists-next.is c.numbers.ensures in
    let items : slice_index c.deref_mut.result.now g ≡ slice_index c.loop-turn.waiting.items g = ap (λ xs. slice_index xs g) c.deref_mut.ensures.value in
    let count : times g c.numbers.result.now ≡ times g (all_below (before c.in-Some.next) n) = ap (times g) list in
    omega (arith, items, count, turn_enough n before c.loop-turn.order.items c.loop-turn.waiting.items c.in-Some.next g now i.counts (omega (arith, l, c.deref_mut.ensures.len, i.counts.len)))

pub loop-turn-preserved : goal.loop-turn-preserved
loop-turn-preserved c =
    let n = length c.args.lists.now in
    let before = follows c.args.lists.now in
    let fs = c.loop-turn.order.items in
    let ws = c.loop-turn.waiting.items in
    let i = c.loop-turn.invariant in
    let f = c.in-Some.next in
    let some = next_some n before fs c.loop-turn.ready f c.take.new.self i.ready c.in-Some.ensures in
    let now = next_is_next n before fs f some in
    let list = list_is c.args.lists.now f c.index-lists-next.result c.numbers.result.now c.requires.ascending now.below c.index-lists-next.is c.numbers.ensures in
    let items = c.deref_mut.ensures.value in
    let same : length c.settle.new.waiting ≡ length ws = c.settle.auto.waiting ∙ ap (length {A = ℕ}) items in
    let lent = take-written c.settle.new.waiting ws c.loop-turn.waiting.len same (omega arith) in
    let pushed : c.push.new.self.items ≡ fs ++ f ∷ [] = c.in_ok-push-in-Some.ensures.items in
    let counts = turn_counts n before fs ws c.settle.new.waiting f now i.counts same (λ g l. ap (λ xs. slice_index c.settle.new.waiting g + times g xs) (sym list) ∙ c.in_ok-settle-in-Some.ensures.counts g (omega (arith, l, ap (length {A = ℕ}) items)) ∙ ap (λ xs. slice_index xs g) items) in
    let ready = turn_ready n before fs c.settle.new.waiting c.loop-turn.ready c.take.new.self c.settle.new.ready f now i.sound i.ready c.in-Some.ensures counts (λ g. c.in_ok-settle-in-Some.ensures.ready g ∙ ap (λ xs. is_in g c.take.new.self || (is_in g xs && (slice_index c.settle.new.waiting g == 0))) list) in
    let P : List ℕ → Type 0 = λ xs. AreReady n before xs c.settle.new.ready in
    let Q : List ℕ → Type 0 = λ xs. AreWaiting n n before xs c.settle.new.waiting in
    let R : List ℕ → Type 0 = AreWaiting n n before c.push.new.self.items in
    let S : List ℕ → Type 0 = IsOrder n before in
    record {
      counts = subst R (sym lent) (subst Q (sym pushed) counts);
      ready = subst P (sym pushed) ready;
      sound = subst S (sym pushed) (order_push n before fs f now i.sound);
      rest = i.rest ∙ order_more n c.loop-turn._turn before fs c.loop-turn-test.true ∙ ap (λ o. with_next o fs (order_after (n - (c.loop-turn._turn + 1)) n before)) some ∙ ap (order_after (n - (c.loop-turn._turn + 1)) n before) (sym pushed);
    }
