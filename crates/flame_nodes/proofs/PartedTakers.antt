-- The bags of all nodes weigh what all takers do.
use Rattle.std.proofs.Common.{◌≡◌, ℕ, zero, suc, ◌+◌, ◌*◌, ◌%◌, ◌<◌, ◌≤◌, Bool, true, false, cond, List, [], ◌∷◌, map, length, drop, refl, sym, ap, ◌∙◌, arith, Ordering}
use Rattle.std.specs.Prelude.{ℤ, ◌==◌}
use Rattle.std.specs.Int.{div_ceil}
use Rattle.std.specs.List.{flat_map, range_with_len}
use Rattle.std.proofs.lemmas.Grind.{div_ceil_times}
use Rattle.std.proofs.lemmas.Nat.{mod_below}
use Rattle.std.proofs.lemmas.List.{drop-drop, take-append-drop, drop_all}
use Rattle.std.proofs.lemmas.List.FromFn.{length-map-range_with_len}
use Rattle.flame_rows.specs.Bags.{ascending, weigh}
use Rattle.flame_rows.specs.Parted.{whose}
use Rattle.flame_rows.specs.Sorted.{sorted_by}
use Rattle.flame_rows.proofs.BagLaws.{weigh-append, weigh-ascending, weigh-sum_by}
use Rattle.flame_rows.proofs.Merging.{same_bag}
use Rattle.flame_rows.proofs.Sorting.{sum_by-sorted_by}
use Rattle.flame_world.proofs.Counting.{length-sorted_by}
use Rattle.flame_nodes.specs.declared.partings.Parting.{Parting}
use Rattle.flame_nodes.specs.declared.partings.Parting.TheVariants.{Rounds, Ranges}
use Rattle.flame_nodes.specs.Partings.{parted, range_order, ranges, rounds, run_at}
use Rattle.flame_nodes.specs.PartingLaws.{EachGoesToOneNode, HasABagForEach}
use Rattle.flame_nodes.proofs.DealtTakers.{dealt-rounds}
use Rattle.flame_nodes.proofs.Totals.{Rows, Weight, total, total-add, total-none, total-one, total-same, weigh-bags}

-- ---- by rounds

whose-cons : (weight : Weight) (passes : ℕ → Bool) (row : List ℤ) (rows : Rows) (choice : ℕ) (choices : List ℕ)
    → weigh weight (whose passes (row ∷ rows) (choice ∷ choices)) ≡ cond (passes choice) (weight row) 0 + weigh weight (whose passes rows choices)
whose-cons weight passes row rows choice choices = by (passes choice)
  where
    by : (b : Bool) → weigh weight (cond b (row ∷ whose passes rows choices) (whose passes rows choices)) ≡ cond b (weight row) 0 + weigh weight (whose passes rows choices)
    by true = refl
    by false = omega arith

-- each row goes where its place says
placed-weigh : (weight : Weight) (count : ℕ) (node : ℕ → ℕ) → ((place : ℕ) → node place < count) → (from : ℕ) (rows : Rows)
    → total (λ k. weigh weight (whose (λ choice. choice == k) rows (map node (range_with_len from (length rows))))) 0 count ≡ weigh weight rows
placed-weigh weight count node below from [] = total-none 0 count
placed-weigh weight count node below from (row ∷ rows) =
    let choices = map node (range_with_len (from + 1) (length rows)) in
    total-same (λ k. weigh weight (whose (λ choice. choice == k) (row ∷ rows) (node from ∷ choices)))
    (λ k. cond (node from == k) (weight row) 0 + weigh weight (whose (λ choice. choice == k) rows choices))
    (λ k. whose-cons weight (λ choice. choice == k) row rows (node from) choices) 0 count
    ∙ total-add (λ k. cond (node from == k) (weight row) 0) (λ k. weigh weight (whose (λ choice. choice == k) rows choices)) 0 count
    ∙ (λ i. total-one (node from) (weight row) 0 count (omega arith) (omega (arith, below from)) i + placed-weigh weight count node below (from + 1) rows i)

rounds-weigh : (weight : Weight) (nodes : ℕ) (takers : Rows) → 1 ≤ nodes → weigh weight (flat_map (λ bag. bag) (rounds nodes takers)) ≡ weigh weight takers
rounds-weigh weight nodes takers some =
    ap (λ (bags : List Rows). weigh weight (flat_map (λ bag. bag) bags)) (sym (dealt-rounds nodes takers))
    ∙ weigh-bags weight (λ number. whose (λ choice. choice == number) takers (map (λ place. place % nodes) (range_with_len 0 (length takers)))) 0 nodes
    ∙ placed-weigh weight nodes (λ place. place % nodes) (λ place. mod_below place nodes some) 0 takers

-- ---- by ranges

weigh-sorted_by : (weight : Weight) (order : List ℤ → List ℤ → Ordering) (rows : Rows) → weigh weight (sorted_by order rows) ≡ weigh weight rows
weigh-sorted_by weight order rows =
    weigh-sum_by weight (sorted_by order rows) ∙ sum_by-sorted_by order weight rows ∙ sym (weigh-sum_by weight rows)

-- runs that follow each other, to the end
runs-weigh : (weight : Weight) (size : ℕ) (rows : Rows) (from count : ℕ) → length rows ≤ (from + count) * size
    → total (λ k. weigh weight (run_at size rows k)) from count ≡ weigh weight (drop (from * size) rows)
runs-weigh weight size rows from zero all =
    ap (weigh weight) (sym (drop_all (from * size) rows (omega (arith, all, ap (λ n. n * size) (none from)))))
  where
    none : (n : ℕ) → n + 0 ≡ n
    none n = omega arith
runs-weigh weight size rows from (suc count) all =
    let own = run_at size rows from in
    let next : (from + 1) * size ≡ from * size + size = grind arith in
    let more : (from + suc count) * size ≡ (from + 1 + count) * size = ap (λ n. n * size) (omega arith) in
    let rest : drop ((from + 1) * size) rows ≡ drop size (drop (from * size) rows) = ap (λ n. drop n rows) next ∙ sym (drop-drop size (from * size) rows) in
    ap (λ n. weigh weight own + n) (runs-weigh weight size rows (from + 1) count (omega (arith, all, more)) ∙ ap (weigh weight) rest)
    ∙ sym (weigh-append weight own (drop size (drop (from * size) rows)))
    ∙ ap (weigh weight) (take-append-drop size (drop (from * size) rows))

none : (size : ℕ) → ◌≡◌ {A = ℕ} (0 * size) 0
none size = grind arith

turned : (nodes size : ℕ) → (0 + nodes) * size ≡ size * nodes
turned nodes size = grind arith

ranges-weigh : (weight : Weight) (column nodes : ℕ) (takers : Rows) → 1 ≤ nodes
    → weigh weight (flat_map (λ bag. bag) (ranges column nodes takers)) ≡ weigh weight takers
ranges-weigh weight column nodes takers some =
    let size = div_ceil (length takers) nodes in
    let ordered = sorted_by (range_order column) takers in
    let long : length ordered ≤ (0 + nodes) * size =
    omega (arith, length-sorted_by (range_order column) takers, (div_ceil_times (length takers) nodes some).0, turned nodes size) in
    weigh-bags weight (λ number. ascending (run_at size ordered number)) 0 nodes
    ∙ total-same (λ k. weigh weight (ascending (run_at size ordered k))) (λ k. weigh weight (run_at size ordered k))
    (λ k. weigh-ascending weight (run_at size ordered k)) 0 nodes
    ∙ runs-weigh weight size ordered 0 nodes long
    ∙ ap (λ n. weigh weight (drop n ordered)) (none size)
    ∙ weigh-sorted_by weight (range_order column) takers

-- ---- either

pub parted-weigh : (weight : Weight) (parting : Parting) (nodes : ℕ) (takers : Rows) → 1 ≤ nodes
    → weigh weight (flat_map (λ bag. bag) (parted parting nodes takers)) ≡ weigh weight takers
parted-weigh weight Rounds nodes takers some = rounds-weigh weight nodes takers some
parted-weigh weight (Ranges column) nodes takers some = ranges-weigh weight column nodes takers some

pub each_goes_to_one : EachGoesToOneNode
each_goes_to_one parting nodes takers some =
    same_bag (flat_map (λ bag. bag) (parted parting nodes takers)) takers (λ weight. parted-weigh weight parting nodes takers some)

pub has_a_bag : HasABagForEach
has_a_bag Rounds nodes takers = length-map-range_with_len _ 0 nodes
has_a_bag (Ranges column) nodes takers = length-map-range_with_len _ 0 nodes
