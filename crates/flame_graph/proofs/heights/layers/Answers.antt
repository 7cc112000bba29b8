-- One node more, all of whose predecessors have their layers.
use Rattle.std.proofs.Common.{◌≡◌, ℕ, [], ◌+◌, ◌<◌, ◌≤◌, List, length, take, get_or, ap, sym, ◌∙◌, subst, arith, slice_index, Bool, true, false}
use Rattle.std.specs.List.{All}
use Rattle.std.proofs.lemmas.List.{take_more, take_all, get_or_read}
use Rattle.std.proofs.lemmas.List.FromFn.{fill_by_all}
use Rattle.flame_rows.proofs.Lists.{take-written}
use Rattle.flame_spec.specs.Below.{is_in}
use Rattle.flame_spec.specs.ModelOrder.{order}
use Rattle.flame_spec.specs.Layers.{layer}
use Rattle.flame_spec.proofs.Orders.{IsOrder, order_is_order, order_length}
use Rattle.flame_graph.specs.Graph.{follows}
use Rattle.flame_graph.specs.Heights.{lifted, reached}
use Rattle.flame_graph.proofs.Counting.{below_all, in_passing}
use Rattle.flame_graph.proofs.Following.{list_is, follows_inside}
use Rattle.flame_graph.proofs.Reaching.{reached_push, reached_turn, reached_end}
use Rattle.flame_graph.proofs.heights.layers.Goals as goal

ordered : (n : ℕ) (before : ℕ → ℕ → Bool) (fs : List ℕ) → fs ≡ order n before → IsOrder n before fs
ordered n before fs e = let P : List ℕ → Type 0 = IsOrder n before in subst P (sym e) (order_is_order n before)

few_ordered : (n : ℕ) (before : ℕ → ℕ → Bool) (fs : List ℕ) → fs ≡ order n before → length fs ≤ n
few_ordered n before fs e = omega (arith, ap (length {A = ℕ}) e, order_length n n before [])

lifted_most : (to : ℕ) (b : Bool) (x m : ℕ) → x ≤ m → to ≤ m + 1 → lifted to b x ≤ m + 1
lifted_most to true x m h k = omega arith
lifted_most to false x m h k = omega arith

pub index-requires : goal.index-requires
index-requires c =
    let o = ordered (length c.args.lists.now) (follows c.args.lists.now) c.args.nodes.now c.requires.order in
    omega (arith, o.below c.loop-node.node-index c.loop-node-test.true, c.loop-node.invariant.len)

pub overflow_add-next : goal.overflow_add-next
overflow_add-next c =
    let n = length c.args.lists.now in
    let before = follows c.args.lists.now in
    let i = c.loop-node.node-index in
    let f = get_or c.args.nodes.now i 0 in
    let o = ordered n before c.args.nodes.now c.requires.order in
    let small = c.loop-node.invariant.small f (o.below i c.loop-node-test.true) in
    let read : c.index.result.now ≡ get_or c.loop-node.heights.items f 0 = get_or_read c.loop-node.heights.items f c.index.result.now (omega (arith, o.below i c.loop-node-test.true, c.loop-node.invariant.len)) c.index.ensures 0 in
    omega (arith, read, small, few_ordered n before c.args.nodes.now c.requires.order, c.requires.few, c.loop-node-test.true)

pub bounds-lists-node : goal.bounds-lists-node
bounds-lists-node c =
    let o = ordered (length c.args.lists.now) (follows c.args.lists.now) c.args.nodes.now c.requires.order in
    omega (arith, o.below c.loop-node.node-index c.loop-node-test.true)

pub lift-requires : goal.lift-requires
lift-requires c =
    let n = length c.args.lists.now in
    let before = follows c.args.lists.now in
    let i = c.loop-node.node-index in
    let f = get_or c.args.nodes.now i 0 in
    let o = ordered n before c.args.nodes.now c.requires.order in
    let list = list_is c.args.lists.now f c.index-lists-node.result c.numbers.result.now c.requires.ascending (o.below i c.loop-node-test.true) c.index-lists-node.is c.numbers.ensures in
    let P : List ℕ → Type 0 = All (λ g. g < n) in
    λ k d l. omega (arith, subst P (sym list) (below_all (before f) n) k d l, c.deref_mut.ensures.len, c.loop-node.invariant.len)

pub loop-node-preserved : goal.loop-node-preserved
loop-node-preserved c =
    let n = length c.args.lists.now in
    let before = follows c.args.lists.now in
    let fs = c.args.nodes.now in
    let i = c.loop-node.node-index in
    let f = get_or fs i 0 in
    let hs = c.loop-node.heights.items in
    let x = c.index.result.now in
    let inv = c.loop-node.invariant in
    let o = ordered n before fs c.requires.order in
    let below = o.below i c.loop-node-test.true in
    let list = list_is c.args.lists.now f c.index-lists-node.result c.numbers.result.now c.requires.ascending below c.index-lists-node.is c.numbers.ensures in
    let read : x ≡ get_or hs f 0 = get_or_read hs f x (omega (arith, below, inv.len)) c.index.ensures 0 in
    let turn : x ≡ layer n before f = read ∙ inv.at f below ∙ reached_turn n before fs i c.requires.order c.requires.whole (follows_inside c.args.lists.now) c.loop-node-test.true in
    let items = c.deref_mut.ensures.value in
    let same : length c.lift.new.heights ≡ length hs = c.lift.auto.heights ∙ ap (length {A = ℕ}) items in
    let lent = take-written c.lift.new.heights hs c.loop-node.heights.len same (omega arith) in
    let now : (g : ℕ) → g < n → slice_index c.lift.new.heights g ≡ lifted (x + 1) (is_in g c.numbers.result.now) (slice_index hs g) = λ g l. c.lift.ensures g (omega (arith, l, ap (length {A = ℕ}) items, inv.len)) ∙ ap (λ xs. lifted (x + 1) (is_in g c.numbers.result.now) (slice_index xs g)) items in
    record {
      len = ap (length {A = ℕ}) lent ∙ same ∙ inv.len;
      at = λ g l.
          let so_far = reached before (layer n before) (take i fs) g in
          ap (λ xs. slice_index xs g) lent ∙ now g l
          ∙ ap (lifted (x + 1) (is_in g c.numbers.result.now)) (inv.at g l)
          ∙ ap (λ k. lifted (k + 1) (is_in g c.numbers.result.now) so_far) turn
          ∙ ap (λ b. lifted (layer n before f + 1) b so_far) (ap (is_in g) list ∙ in_passing (before f) n g l)
          ∙ sym (ap (λ xs. reached before (layer n before) xs g) (take_more fs i 0 c.loop-node-test.true) ∙ reached_push before (layer n before) (take i fs) f g);
      small = λ g l.
          let eq = ap (λ xs. slice_index xs g) lent ∙ now g l in
          omega (arith, eq, lifted_most (x + 1) (is_in g c.numbers.result.now) (slice_index hs g) i (inv.small g l) (omega (arith, read, inv.small f below)));
    }

pub returns : goal.returns
returns c =
    let n = length c.args.lists.now in
    let before = follows c.args.lists.now in
    let fs = c.args.nodes.now in
    let hs = c.loop-node.heights.items in
    fill_by_all (layer n before) hs n 0 c.loop-node.invariant.len
    (λ k l. c.loop-node.invariant.at k l ∙ ap (λ xs. reached before (layer n before) xs k) (take_all c.loop-node.node-index fs c.loop-node-test.false) ∙ reached_end n before fs k c.requires.order c.requires.whole (follows_inside c.args.lists.now) l)
