-- Choices of runs of agents make up the choices of all.
use Rattle.std.proofs.Common.{◌≡◌, ℕ, suc, ◌+◌, ◌*◌, ◌-◌, ◌<◌, ◌≤◌, List, [], ◌∷◌, ◌++◌, length, take, drop, map, ap, subst, sym, ◌∙◌, arith}
use Rattle.std.specs.Prelude.{ℤ, Result, Ok, IfOk, slice_index_or}
use Rattle.std.specs.Fork.{slice_chunk}
use Rattle.std.specs.List.{flat_map}
use Rattle.std.proofs.lemmas.List.{drop-drop, get_or-map, length-drop, length-map, map-append, take-append-drop, nil_from_length}
use Rattle.std.proofs.lemmas.Grind.{div_ceil_times}
use Rattle.flame_rows.specs.declared.fails.NoMemory.{NoMemory}
use Rattle.flame_layerrun.specs.LayerChoices.{AreRunChoices}

module _ (choose : List ℤ → ℕ) (size : ℕ) where
  times-none : 0 * size ≡ 0
  times-none = omega arith

  times-more : (n : ℕ) → suc n * size ≡ size + n * size
  times-more n = omega arith

  run-choices : (agents : List (List ℤ)) (runs : List (List ℕ))
      → ((n : ℕ) (other : List ℕ) → n < length runs
      → slice_index_or runs n other ≡ map choose (slice_chunk agents size n))
      → length agents ≤ length runs * size
      → flat_map (λ run. run) runs ≡ map choose agents
  run-choices agents [] each enough = ap (map choose) (sym (nil_from_length agents (omega (arith, enough))))
  run-choices agents (first ∷ runs) each enough =
      let front = take size agents in
      let back = drop size agents in
      let less : length back ≡ length agents - size = length-drop size agents in
      ap (λ l. first ++ l)
      (run-choices back runs
      (λ n other more.
      each (suc n) other (omega (arith, more))
      ∙ ap (λ l. map choose (take size l)) (ap (λ m. drop m agents) (times-more n) ∙ sym (drop-drop (n * size) size agents)))
      (omega (arith, less, enough, times-more (length runs))))
      ∙ ap (λ l. l ++ map choose back)
      (each 0 first (omega arith) ∙ ap (λ n. map choose (take size (drop n agents))) times-none)
      ∙ sym (map-append choose front back)
      ∙ ap (map choose) (take-append-drop size agents)

-- where each run was answered, the answers make up the choices of all
pub runs-whole : (choose : List ℤ → ℕ) (size : ℕ) (agents : List (List ℤ)) (results : List (Result (List ℕ) NoMemory))
    (runs : List (List ℕ))
    → 0 < size
    → AreRunChoices choose size agents results
    → map Ok runs ≡ results
    → flat_map (λ run. run) runs ≡ map choose agents
runs-whole choose size agents results runs wide are made =
    let as_many : length runs ≡ length results = sym (length-map runs Ok) ∙ ap length made in
    run-choices choose size agents runs
    (λ n other more.
    subst
    (λ r. IfOk r (λ choices. choices ≡ map choose (slice_chunk agents size n)))
    (ap (λ rs. slice_index_or rs n (Ok other)) (sym made) ∙ get_or-map Ok runs n other (Ok other) more)
    (are.each n (Ok other) (omega (arith, more, as_many))))
    (let enough = (div_ceil_times (length agents) size wide).0 in
    subst (λ k. length agents ≤ k * size) (sym (as_many ∙ are.count)) enough)
