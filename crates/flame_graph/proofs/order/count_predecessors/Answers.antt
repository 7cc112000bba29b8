-- The counts of one list more.
use Rattle.std.proofs.Common.{◌≡◌, ℕ, [], ◌+◌, ◌<◌, List, length, ap, sym, ◌∙◌, subst, arith, slice_index}
use Rattle.std.specs.List.{All}
use Rattle.flame_rows.proofs.Lists.{take-written}
use Rattle.flame_spec.specs.Below.{times}
use Rattle.flame_graph.specs.Graph.{follows, AreWaiting}
use Rattle.flame_graph.proofs.Counting.{below_all, count_small, waiting_more}
use Rattle.flame_graph.proofs.Following.{list_is}
use Rattle.flame_graph.proofs.order.count_predecessors.Goals as goal

pub raise-requires-clause-within : goal.raise-requires-clause-within
raise-requires-clause-within c =
    let n = length c.args.lists.now in
    let same = list_is c.args.lists.now c.loop-list.list-index c.list-item.result c.numbers.result.now c.requires c.loop-list-test.true c.list-item.is c.numbers.ensures in
    let P : List ℕ → Type 0 = All (λ g. g < n) in
    λ k d l. omega (arith, subst P (sym same) (below_all (follows c.args.lists.now c.loop-list.list-index) n) k d l, c.deref_mut.ensures.len, c.loop-list.invariant.len)

pub raise-requires-clause-small : goal.raise-requires-clause-small
raise-requires-clause-small c = λ g l.
    let items = c.deref_mut.ensures.value in
    let at : slice_index c.deref_mut.result.now g ≡ slice_index c.loop-list.waiting.items g = ap (λ xs. slice_index xs g) items in
    omega (arith, at, c.loop-list.invariant.at g (omega (arith, l, c.deref_mut.ensures.len, c.loop-list.invariant.len)), count_small c.loop-list.list-index (follows c.args.lists.now) [] g, c.loop-list-test.true)

pub loop-list-preserved : goal.loop-list-preserved
loop-list-preserved c =
    let n = length c.args.lists.now in
    let i = c.loop-list.list-index in
    let before = follows c.args.lists.now in
    let list = list_is c.args.lists.now i c.list-item.result c.numbers.result.now c.requires c.loop-list-test.true c.list-item.is c.numbers.ensures in
    let items = c.deref_mut.ensures.value in
    let same : length c.raise.new.waiting ≡ length c.loop-list.waiting.items = c.raise.auto.waiting ∙ ap (length {A = ℕ}) items in
    let lent = take-written c.raise.new.waiting c.loop-list.waiting.items c.loop-list.waiting.len same (omega arith) in
    let P : List ℕ → Type 0 = AreWaiting (i + 1) n before [] in
    subst P (sym lent) (waiting_more i n before c.loop-list.waiting.items c.raise.new.waiting c.loop-list-test.true c.loop-list.invariant same (λ g l. c.raise.ensures g (omega (arith, l, ap (length {A = ℕ}) items)) ∙ ap (λ xs. slice_index xs g + times g c.numbers.result.now) items ∙ ap (λ xs. slice_index c.loop-list.waiting.items g + times g xs) list))
