-- Pools joined again.
use Rattle.std.proofs.Common.{◌≡◌, List, [], ◌∷◌, ◌++◌, length, sym, ap, ◌∙◌, arith, append-nil}
use Rattle.std.specs.Prelude.{ℤ}
use Rattle.std.specs.List.{flat_map}
use Rattle.flame_rows.specs.Bags.{ascending, merge}
use Rattle.flame_rows.proofs.BagLaws.{merge_commutes}

pub joined-all : (born rows : List (List ℤ)) (pools left : List (List (List ℤ)))
    → born ++ flat_map (λ pool. pool) pools ≡ rows ++ flat_map (λ pool. pool) left
    → length left ≡ 0
    → ascending rows ≡ merge (flat_map (λ pool. pool) pools) born
joined-all born rows pools [] so_far none =
    ap ascending (sym (so_far ∙ append-nil rows)) ∙ merge_commutes born (flat_map (λ pool. pool) pools)
joined-all born rows pools (pool ∷ left) so_far none = absurd (omega (arith, none))
