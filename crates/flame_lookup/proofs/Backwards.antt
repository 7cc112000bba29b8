-- Tables that are filled from the last item to the first.
use Rattle.std.proofs.Common.{◌≡◌, ℕ, ◌+◌, ◌<◌, List, ◌∷◌, length, drop, get_or, map, sym, ap, ◌∙◌, Bool, cond, Option, Some}
use Rattle.std.proofs.lemmas.List.{at_drop_more}
use Rattle.flame_spec.specs.Lists.{numbered_from}

-- the same of what the items are seen as
pub numbered_before_seen :
    {X Y : Type 0} (f : X → Y) (passes : Y → Bool) (xs : List X) (i : ℕ) (x : X) (found : Option (ℕ × Y))
    → i < length xs
    → x ≡ get_or xs i x
    → found ≡ numbered_from passes (i + 1) (map f (drop (i + 1) xs))
    → cond (passes (f x)) (Some (i, f x)) found ≡ numbered_from passes i (map f (drop i xs))
numbered_before_seen f passes xs i x found h is e =
    ap (cond (passes (f x)) (Some (i, f x))) e
    ∙ sym
    (at_drop_more (λ l. numbered_from passes i (map f l)) xs i x h
    ∙ ap (λ y. numbered_from passes i (map f (y ∷ drop (i + 1) xs))) (sym is))
