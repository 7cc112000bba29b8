-- Bags that come together.
use Rattle.std.proofs.Common.{◌≡◌, ℕ, ◌+◌, List, [], ◌∷◌, ◌++◌, length, sym, ap, ◌∙◌, arith, append_assoc, append-nil}
use Rattle.std.specs.Prelude.{ℤ}
use Rattle.std.specs.List.{flat_map}
use Rattle.std.proofs.lemmas.List.Concat.{flat_map-append}
use Rattle.flame_rows.specs.Bags.{ascending, merge, merge_all, weigh}
use Rattle.flame_rows.proofs.BagLaws.{IsAscending-ascending, ascending-IsAscending, equal_by_weighings, weigh-ascending, weigh-append}

-- rows that weigh the same have one bag
pub same_bag : (rows more : List (List ℤ)) → ((weight : List ℤ → ℕ) → weigh weight rows ≡ weigh weight more) → ascending rows ≡ ascending more
same_bag rows more same =
    equal_by_weighings (ascending rows) (ascending more) (IsAscending-ascending rows) (IsAscending-ascending more)
    (λ weight. weigh-ascending weight rows ∙ same weight ∙ sym (weigh-ascending weight more))

pub ascending-ascending : (rows : List (List ℤ)) → ascending (ascending rows) ≡ ascending rows
ascending-ascending rows = ascending-IsAscending (ascending rows) (IsAscending-ascending rows)

pub ascending-append : (rows more : List (List ℤ)) → ascending (rows ++ more) ≡ merge (ascending rows) more
ascending-append rows more =
    same_bag (rows ++ more) (ascending rows ++ more)
    (λ weight.
    weigh-append weight rows more
    ∙ ap (λ n. n + weigh weight more) (sym (weigh-ascending weight rows))
    ∙ sym (weigh-append weight (ascending rows) more))

pub merge-ascending : (rows more : List (List ℤ)) → merge rows (ascending more) ≡ merge rows more
merge-ascending rows more =
    same_bag (rows ++ ascending more) (rows ++ more)
    (λ weight.
    weigh-append weight rows (ascending more)
    ∙ ap (λ n. weigh weight rows + n) (weigh-ascending weight more)
    ∙ sym (weigh-append weight rows more))

pub merge-append : (rows more last : List (List ℤ)) → merge (merge rows more) last ≡ merge rows (more ++ last)
merge-append rows more last =
    sym (ascending-append (rows ++ more) last) ∙ ap ascending (append_assoc rows more last)

-- ---- many bags

abbrev all_rows : List (List (List ℤ)) → List (List ℤ)
all_rows bags = flat_map (λ bag. bag) bags

-- one bag more
pub merge_all-push : (bags : List (List (List ℤ))) (bag : List (List ℤ)) → merge_all (bags ++ bag ∷ []) ≡ merge (merge_all bags) bag
merge_all-push bags bag =
    ap ascending (flat_map-append (λ (b : List (List ℤ)). b) bags (bag ∷ []) ∙ ap (λ l. all_rows bags ++ l) (append-nil bag))
    ∙ ascending-append (all_rows bags) bag

-- where no bag is left, all are joined
pub all_joined : (all rows : List (List ℤ)) (left : List (List (List ℤ))) → all ≡ rows ++ flat_map (λ bag. bag) left → length left ≡ 0 → rows ≡ all
all_joined all rows [] so_far none = sym (so_far ∙ append-nil rows)
all_joined all rows (bag ∷ left) so_far none = absurd (omega (arith, none))

-- a list behind another has the bags of both
pub ascending-append_merge : (ones twos : List (List ℤ)) → ascending (ones ++ twos) ≡ merge (ascending ones) (ascending twos)
ascending-append_merge ones twos = ascending-append ones twos ∙ sym (merge-ascending (ascending ones) twos)
