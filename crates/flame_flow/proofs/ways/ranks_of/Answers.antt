use Rattle.std.proofs.Common.{◌≡◌, ℕ, ◌<◌, ◌∙◌, List, ap, sym, arith, length, length-set}
use Rattle.std.specs.Prelude.{slice_index}
use Rattle.flame_spec.specs.Before.{before, function_count}
use Rattle.flame_spec.specs.ModelOrder.{model_order, rank}
use Rattle.flame_flow.proofs.Places.{ranks_more}
use Rattle.flame_flow.proofs.ways.ranks_of.Goals as goal

pub index_mut-requires : goal.index_mut-requires
index_mut-requires c =
    let model = c.args.program.now.model in
    let order = c.items-order.result.now in
    let is : order ≡ model_order model = c.items-order.ensures ∙ c.plan.ensures.order in
    let k = c.loop-rank.rank in
    let less : k < length (model_order model) = omega (arith, ap length is) in
    let below = c.orders.ensures.functions (function_count model) (before model) k less in
    omega (arith, below, c.loop-rank.invariant.long, ap (λ (l : List ℕ). slice_index l k) is)

pub loop-rank-preserved : goal.loop-rank-preserved
loop-rank-preserved c =
    let model = c.args.program.now.model in
    let n = function_count model in
    let order = c.items-order.result.now in
    let is : order ≡ model_order model = c.items-order.ensures ∙ c.plan.ensures.order in
    let k = c.loop-rank.rank in
    let less : k < length (model_order model) = omega (arith, ap length is) in
    let below = c.orders.ensures.functions n (before model) k less in
    let once : (i j : ℕ) → i < length order → j < length order → slice_index order i ≡ slice_index order j → i ≡ j = λ i j one two same.
    sym (c.ranks.ensures.place n (before model) i (omega (arith, one, ap length is)))
    ∙ ap (rank n (before model)) (ap (λ (l : List ℕ). slice_index l i) (sym is) ∙ same ∙ ap (λ (l : List ℕ). slice_index l j) is)
    ∙ c.ranks.ensures.place n (before model) j (omega (arith, two, ap length is)) in
    record {
      long = length-set c.loop-rank.ranks.items _ _ ∙ c.loop-rank.invariant.long;
      are = ranks_more order c.loop-rank.ranks.items n k _ c.loop-rank.invariant.long (omega arith)
          (omega (arith, below, ap (λ (l : List ℕ). slice_index l k) is)) c.in_ok-next.ensures once c.loop-rank.invariant.are;
    }

pub returns : goal.returns
returns c = λ r less.
    let model = c.args.program.now.model in
    let order = c.items-order.result.now in
    let is : order ≡ model_order model = c.items-order.ensures ∙ c.plan.ensures.order in
    ap (λ (l : List ℕ). slice_index c.loop-rank.ranks.items (slice_index l r)) (sym is) ∙ c.loop-rank.invariant.are r (omega (arith, less, ap length is))
