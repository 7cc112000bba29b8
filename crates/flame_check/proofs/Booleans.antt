-- Booleans that definitions test, and what stands where they are false.
use Rattle.std.proofs.Common.{◌≡◌, ℕ, suc, List, [], ◌∷◌, length, refl, sym, Bool, true, false, cond, Option, Some}
use Rattle.std.proofs.Common.{None, arith}
use Rattle.std.specs.Prelude.{not, ◌==◌}
use Rattle.std.proofs.lemmas.Bool.Decides.{nat_tests}
use Rattle.flame_spec.specs.Definitions.{Definition, has_none}

-- a list is empty where its length is 0
pub has_none_is : {X : Type 0} (xs : List X) → has_none xs ≡ (length xs == 0)
has_none_is [] = refl
has_none_is (x ∷ xs) = some (length xs)
  where
    some : (n : ℕ) → false ≡ (suc n == 0)
    some n = grind (arith, nat_tests)

-- a test that is turned twice
pub not_turned : (a b : Bool) → a ≡ not b → b ≡ not a
not_turned true true e = absurd (cc)
not_turned true false e = refl
not_turned false true e = refl
not_turned false false e = absurd (cc)

-- what stands where a test fails
pub where_false :
    (b : Bool) (o : Option Definition) (d : Definition)
    → Some d ≡ cond b None o
    → b ≡ false
where_false true o d e = absurd (cc)
where_false false o d e = refl

pub found_there :
    (b : Bool) (o : Option Definition) (d : Definition)
    → Some d ≡ cond b None o
    → o ≡ Some d
found_there true o d e = absurd (cc)
found_there false o d e = sym e
