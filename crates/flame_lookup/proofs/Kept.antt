-- Lists of what passes a test, item by item.
use Rattle.std.proofs.Common.{◌≡◌, ℕ, suc, ◌+◌, ◌<◌, List, [], ◌∷◌, ◌++◌, length, drop, get_or, map, refl, sym, ap, ◌∙◌, Bool, true, false, ◌||◌, cond, append_assoc, arith}
use Rattle.std.specs.Prelude.{not, ◌==◌}
use Rattle.std.specs.List.{filter, list_any}
use Rattle.std.proofs.lemmas.Bool.Decides.{nat_tests}
use Rattle.std.proofs.lemmas.List.{at_drop_more}
use Rattle.flame_spec.specs.Lists.{numbers_from}

above_none : (n : ℕ) → not (suc n == 0) ≡ true
above_none n = grind (arith, nat_tests)

-- there are numbers where one passes
pub has_numbers :
    {X : Type 0} (passes : X → Bool) (i : ℕ) (xs : List X)
    → not (length (numbers_from passes i xs) == 0) ≡ list_any passes xs
has_numbers passes i [] = refl
has_numbers passes i (x ∷ xs) = by_test (passes x) (has_numbers passes (i + 1) xs)
  where
    by_test :
        (b : Bool)
        → not (length (numbers_from passes (i + 1) xs) == 0) ≡ list_any passes xs
        → not (length (cond b (i ∷ numbers_from passes (i + 1) xs) (numbers_from passes (i + 1) xs)) == 0)
        ≡ b || list_any passes xs
    by_test true e = above_none (length (numbers_from passes (i + 1) xs))
    by_test false e = e

-- one item more
pub kept_more :
    {X Y : Type 0} (f : X → Y) (keeps : Y → Bool) (done : List Y) (xs : List X) (i : ℕ) (x : X)
    → i < length xs
    → x ≡ get_or xs i x
    → done ++ filter keeps (map f (drop i xs))
    ≡ cond (keeps (f x)) (done ++ f x ∷ []) done ++ filter keeps (map f (drop (i + 1) xs))
kept_more {X} {Y} f keeps done xs i x h is =
    at_drop_more (λ l. done ++ filter keeps (map f l)) xs i x h
    ∙ ap (λ y. done ++ filter keeps (map f (y ∷ drop (i + 1) xs))) (sym is)
    ∙ by_test (keeps (f x)) (filter keeps (map f (drop (i + 1) xs)))
  where
    by_test :
        (b : Bool) (rest : List Y)
        → done ++ cond b (f x ∷ rest) rest ≡ cond b (done ++ f x ∷ []) done ++ rest
    by_test true rest = simp append_assoc
    by_test false rest = refl
