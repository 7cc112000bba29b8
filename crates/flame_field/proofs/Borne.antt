-- Births that are kept as they come.
use Rattle.std.proofs.Common.{◌≡◌, ℕ, ◌+◌, List, [], ◌∷◌, ◌++◌, length, map, Vec, refl, sym, ap, ◌∙◌, arith}
use Rattle.std.specs.Global.{Global}
use Rattle.std.specs.Prelude.{ℤ}
use Rattle.std.proofs.lemmas.List.{length-map}
use Rattle.flame_spec.specs.declared.outcomes.Born.{Born}
use Rattle.flame_world.specs.AgentRuns.{births_of}
use Rattle.flame_world.specs.Fields.{changed, changed_pool, joined}
use Rattle.flame_world.proofs.Counting.{length-changed}
use Rattle.flame_field.specs.declared.pools.Pool.{Pool}
use Rattle.flame_field.specs.KeptPools.{pools_of, pool_bags}
use Rattle.flame_world.proofs.JoinedBags.{joined_from-twice, births_of-append}

pub joined-later : (born births : List Born) (bags : List (List (List ℤ)))
    → joined (births_of (born ++ births)) bags ≡ joined (births_of births) (joined (births_of born) bags)
joined-later born births bags =
    joined_from-twice 0 (births_of born) (births_of births) (births_of (born ++ births)) (λ k. births_of-append k born births) bags

pub same_for_all : {X Y Z : Type 0} (z : Z) (xs : List X) (ys : List Y) → length xs ≡ length ys → map (λ x. z) xs ≡ map (λ y. z) ys
same_for_all z [] [] long = refl
same_for_all z [] (y ∷ ys) long = absurd (omega (arith, long))
same_for_all z (x ∷ xs) [] long = absurd (omega (arith, long))
same_for_all z (x ∷ xs) (y ∷ ys) long = λ i. z ∷ same_for_all z xs ys (omega (arith, long)) i

abbrev none_of : Vec (Vec Pool Global) Global → List (List (List ℤ))
none_of pools = map (λ own. []) pools.items

-- there are as many types as before
pub none_same : (old new : Vec (Vec Pool Global) Global) → length (pools_of new) ≡ length (pools_of old) → none_of new ≡ none_of old
none_same old new long =
    same_for_all [] new.items old.items (sym (length-map new.items pool_bags) ∙ long ∙ length-map old.items pool_bags)

pub pools_long : (old new : Vec (Vec Pool Global) Global) (agent state : ℕ) (change : List (List ℤ) → List (List ℤ))
    → pools_of new ≡ changed_pool agent state change (pools_of old) → none_of new ≡ none_of old
pools_long old new agent state change is = none_same old new (ap length is ∙ length-changed agent (changed state change) (pools_of old))

-- births come after the earlier ones
pub born_more : (old new : Vec (Vec Pool Global) Global) (born births all : List Born) → none_of new ≡ none_of old → all ≡ born ++ births
    → joined (births_of all) (none_of new) ≡ joined (births_of births) (joined (births_of born) (none_of old))
born_more old new born births all same is =
    (λ i. joined (births_of (is i)) (same i)) ∙ joined-later born births (none_of old)
