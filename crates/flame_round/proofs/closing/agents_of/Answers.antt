use Rattle.std.proofs.Common.{◌≡◌, ◌++◌, ◌∙◌, ◌⊎◌, inl, inr, [], ◌∷◌, List, ap, append-nil, length, map, refl, sym, arith}
use Rattle.std.specs.Prelude.{ℤ}
use Rattle.std.specs.List.{flat_map, zip}
use Rattle.std.specs.Vec.Iter.{into_iter_items}
use Rattle.std.specs.Iterator.Adapters.{zip_first, zip_second}
use Rattle.std.proofs.lemmas.List.{length-map}
use Rattle.flame_rows.specs.Bags.{merge}
use Rattle.flame_field.specs.KeptGatherings.{bag_of}
use Rattle.flame_field.specs.KeptPools.{pool_bags}
use Rattle.flame_round.proofs.closing.agents_of.Goals as goal

none-left : {X Y Z : Type 0} (f : X × Y → Z) (xs : List X) (ys : List Y) → (length xs ≡ 0) ⊎ (length ys ≡ 0) → map f (zip xs ys) ≡ []
none-left f [] ys none = refl
none-left f (x ∷ xs) [] none = refl
none-left f (x ∷ xs) (y ∷ ys) none = absurd (elim none [ inl gone ↦ (let never : ⊥ = omega (arith, gone) in never) | inr gone ↦ (let never : ⊥ = omega (arith, gone) in never) ])

pub returns : goal.returns
returns c =
    let pools = into_iter_items (zip_first c.loop-pools.pools-iterator) in
    let born = into_iter_items (zip_second c.loop-pools.pools-iterator) in
    let old = c.loop-pools.invariant in
    let gone : (length (map pool_bags pools) ≡ 0) ⊎ (length (map bag_of born) ≡ 0) =
    elim c.in-None.ensures.steps [
      | inl ends ↦ inl (length-map pools pool_bags ∙ sym old.first ∙ ends.1.0)
      | inr ends ↦ inr (length-map born bag_of ∙ sym old.second ∙ ends.1.0)
    ] in
    sym
    (old.all
    ∙ ap (λ rest. c.loop-pools.bags.items ++ rest)
    (none-left (λ ((ps, more) : List (List (List ℤ)) × List (List ℤ)). merge (flat_map (λ pool. pool) ps) more) (map pool_bags pools) (map bag_of born) gone)
    ∙ append-nil c.loop-pools.bags.items)
