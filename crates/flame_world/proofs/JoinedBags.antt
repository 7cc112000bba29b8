-- Bags join by what they are.
use Rattle.std.proofs.Common.{◌≡◌, ℕ, ◌+◌, List, [], ◌∷◌, refl, sym, ap, ◌∙◌, ◌++◌, map}
use Rattle.std.specs.Prelude.{ℤ, ◌==◌}
use Rattle.std.specs.List.{filter}
use Rattle.std.proofs.lemmas.List.{map-append}
use Rattle.std.proofs.lemmas.List.Elements.{filter-append}
use Rattle.flame_rows.specs.Bags.{ascending, merge}
use Rattle.flame_rows.proofs.Merging.{merge-ascending, merge-append}
use Rattle.flame_spec.specs.declared.outcomes.Born.{Born}
use Rattle.flame_world.specs.Fields.{joined_from}
use Rattle.flame_world.specs.AgentRuns.{births_of}

abbrev Rows : Type 0
Rows = List (List ℤ)

pub joined_from-same : (rows more : ℕ → Rows) → ((n : ℕ) → ascending (rows n) ≡ ascending (more n)) → (i : ℕ) (bags : List Rows)
    → joined_from i rows bags ≡ joined_from i more bags
joined_from-same rows more same i [] = refl
joined_from-same rows more same i (bag ∷ bags) =
    let here : merge bag (rows i) ≡ merge bag (more i) =
    sym (merge-ascending bag (rows i)) ∙ ap (merge bag) (same i) ∙ merge-ascending bag (more i) in
    λ j. here j ∷ joined_from-same rows more same (i + 1) bags j

pub births_of-append : (k : ℕ) (xs ys : List Born) → births_of (xs ++ ys) k ≡ births_of xs k ++ births_of ys k
births_of-append k xs ys =
    ap (map (λ (b : Born). b.row)) (filter-append (λ (b : Born). b.agent == k) xs ys)
    ∙ map-append (λ (b : Born). b.row) (filter (λ (b : Born). b.agent == k) xs) (filter (λ (b : Born). b.agent == k) ys)

pub joined_from-twice : (i : ℕ) (one other both : ℕ → List (List ℤ)) → ((k : ℕ) → both k ≡ one k ++ other k) → (bags : List (List (List ℤ)))
    → joined_from i both bags ≡ joined_from i other (joined_from i one bags)
joined_from-twice i one other both same [] = refl
joined_from-twice i one other both same (bag ∷ bags) =
    let here : merge bag (both i) ≡ merge (merge bag (one i)) (other i) = ap (merge bag) (same i) ∙ sym (merge-append bag (one i) (other i)) in
    λ j. here j ∷ joined_from-twice (i + 1) one other both same bags j
