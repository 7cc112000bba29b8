-- Takers that are dealt out by a list of their nodes' numbers are in the places of these nodes.
use Rattle.std.proofs.Common.{◌≡◌, ◌∙◌, ℕ, zero, suc, ◌+◌, ◌%◌, Bool, true, false, cond, List, [], ◌∷◌, map, length, refl, ap, arith}
use Rattle.std.specs.Prelude.{ℤ, ◌==◌, slice_index_or}
use Rattle.std.specs.List.{filter, range_with_len}
use Rattle.flame_rows.specs.Parted.{parts_by, whose}
use Rattle.flame_nodes.specs.Partings.{rounds, rows_at}
use Rattle.flame_nodes.proofs.Totals.{Rows}

module _ (passes : ℕ → Bool) (node : ℕ → ℕ) (all : Rows) where
  -- of the last rows of all, of which the first stands in place `from`
  whose-places : (from : ℕ) (rows : Rows)
      → ((k : ℕ) (d : List ℤ) → slice_index_or rows k d ≡ slice_index_or all (from + k) d)
      → whose passes rows (map node (range_with_len from (length rows)))
      ≡ rows_at all (filter (λ place. passes (node place)) (range_with_len from (length rows)))
  whose-places from [] are = refl
  whose-places from (row ∷ rows) are =
      let choices = map node (range_with_len (from + 1) (length rows)) in
      let places = filter (λ place. passes (node place)) (range_with_len (from + 1) (length rows)) in
      let here : row ≡ slice_index_or all from [] = are 0 [] ∙ ap (λ place. slice_index_or all place []) (omega arith) in
      let rest : whose passes rows choices ≡ rows_at all places =
      whose-places (from + 1) rows (λ k d. are (suc k) d ∙ ap (λ place. slice_index_or all place d) (omega arith)) in
      by choices places here rest (passes (node from))
    where
      by : (choices places : List ℕ) → row ≡ slice_index_or all from [] → whose passes rows choices ≡ rows_at all places → (b : Bool)
          → cond b (row ∷ whose passes rows choices) (whose passes rows choices) ≡ rows_at all (cond b (from ∷ places) places)
      by choices places here rest true = λ i. here i ∷ rest i
      by choices places here rest false = rest

pub dealt-rounds : (nodes : ℕ) (takers : Rows)
    → parts_by nodes takers (map (λ place. place % nodes) (range_with_len 0 (length takers))) ≡ rounds nodes takers
dealt-rounds nodes takers =
    λ i. map (λ number. own number i) (range_with_len 0 nodes)
  where
    own : (number : ℕ) → whose (λ choice. choice == number) takers (map (λ place. place % nodes) (range_with_len 0 (length takers)))
        ≡ rows_at takers (filter (λ place. (place % nodes) == number) (range_with_len 0 (length takers)))
    own number = whose-places (λ choice. choice == number) (λ place. place % nodes) takers 0 takers (λ k d. ap (λ place. slice_index_or takers place d) (omega arith))
