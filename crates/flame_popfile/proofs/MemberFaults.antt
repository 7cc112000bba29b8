-- The faults of members, one after another.
use Rattle.std.proofs.Common.{◌≡◌, ℕ, ◌+◌, ◌<◌, ◌≤◌, List, [], ◌∷◌, ◌++◌, length, take, drop, get_or, map, ap, sym, ◌∙◌, arith}
use Rattle.std.proofs.lemmas.List.{at_drop_more, drop_all, take_more, length-map, get_or-map}
use Rattle.flame_spec.specs.Lists.{each_from}

-- the faults of the members that are left are those of the next and of the rest
pub next_member :
    {X Y F : Type 0} (f : ℕ → Y → List F) (g : X → Y) (xs : List X) (i : ℕ) (x : X)
    → i < length xs
    → x ≡ get_or xs i x
    → each_from f i (map g (drop i xs)) ≡ f i (g x) ++ each_from f (i + 1) (map g (drop (i + 1) xs))
next_member f g xs i x h is =
    at_drop_more (λ l. each_from f i (map g l)) xs i x h
    ∙ ap (λ y. f i (g y) ++ each_from f (i + 1) (map g (drop (i + 1) xs))) (sym is)

-- no member is left
pub no_member :
    {X Y F : Type 0} (f : ℕ → Y → List F) (g : X → Y) (xs : List X) (i : ℕ)
    → length xs ≤ i → each_from f i (map g (drop i xs)) ≡ []
no_member f g xs i h = ap (λ l. each_from f i (map g l)) (drop_all i xs h)

-- the members so far, with the next
pub taken_members :
    {X Y : Type 0} (g : X → Y) (xs : List X) (i : ℕ) (x : X)
    → i < length xs
    → x ≡ get_or xs i x
    → take (i + 1) (map g xs) ≡ take i (map g xs) ++ g x ∷ []
taken_members g xs i x h is =
    take_more (map g xs) i (g x) (omega (arith, length-map xs g))
    ∙ ap (λ y. take i (map g xs) ++ y ∷ []) (get_or-map g xs i x (g x) h ∙ ap g (sym is))
