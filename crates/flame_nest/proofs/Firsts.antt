-- First faults.
use Rattle.std.proofs.Common.{◌≡◌, ℕ, ◌+◌, ◌<◌, List, [], ◌++◌, length, drop, get_or, refl, sym, ap, ◌∙◌, Bool, true, false, true≢false}
use Rattle.std.specs.Prelude.{◌&&◌}
use Rattle.std.specs.Bool.{OnTrue}
use Rattle.std.specs.List.{flat_map}
use Rattle.std.proofs.lemmas.List.{at_drop_more}
use Rattle.flame_spec.specs.Lists.{each_from, first}
use Rattle.flame_rows.specs.declared.fails.Fail.{Fail}
use Rattle.flame_nest.specs.declared.faults.NestKind.{NestKind}
use Rattle.flame_nest.specs.NestFaults.{nest_where}
use Rattle.flame_spec.specs.FirstFaults.{FailsFirst}
use Rattle.flame_spec.proofs.FaultLists.{FailsFirst-append, FailsFirst-same}

-- the first fault of an item is the first of the rest of the list
pub fails-item : {X F : Type 0} (fail : Fail F) (f : X → List F) (xs : List X) (i : ℕ) (d item : X) (whole : List F)
    → i < length xs
    → item ≡ get_or xs i d
    → whole ≡ flat_map f (drop i xs)
    → FailsFirst (f item) fail
    → FailsFirst whole fail
fails-item fail f xs i d item whole inside is rest h =
    FailsFirst-same
    fail
    (f item ++ flat_map f (drop (i + 1) xs))
    whole
    (sym
    (rest
    ∙ at_drop_more (flat_map f) xs i d inside
    ∙ ap (λ x. f x ++ flat_map f (drop (i + 1) xs)) (sym is)))
    (FailsFirst-append fail (f item) (flat_map f (drop (i + 1) xs)) h)

-- an item without a fault
pub none-item : {X F : Type 0} (f : X → List F) (xs : List X) (i : ℕ) (d item : X) (whole : List F)
    → i < length xs
    → item ≡ get_or xs i d
    → whole ≡ flat_map f (drop i xs)
    → f item ≡ []
    → whole ≡ flat_map f (drop (i + 1) xs)
none-item f xs i d item whole inside is rest none =
    rest
    ∙ at_drop_more (flat_map f) xs i d inside
    ∙ ap (λ x. f x ++ flat_map f (drop (i + 1) xs)) (sym is)
    ∙ ap (λ l. l ++ flat_map f (drop (i + 1) xs)) none

-- a member without a fault
pub none-member : {X F : Type 0} (f : ℕ → X → List F) (xs : List X) (i : ℕ) (d : X) (whole member : List F)
    → i < length xs
    → whole ≡ each_from f i (drop i xs)
    → member ≡ f i (get_or xs i d)
    → member ≡ []
    → whole ≡ each_from f (i + 1) (drop (i + 1) xs)
none-member f xs i d whole member inside rest e none =
    rest
    ∙ at_drop_more (each_from f i) xs i d inside
    ∙ ap (λ l. l ++ each_from f (i + 1) (drop (i + 1) xs)) (sym e ∙ none)

-- ---- tests

pub where-same : (test other : Bool) (kind : NestKind) (file name : List ℕ)
    → test ≡ other → nest_where test kind file name ≡ nest_where other kind file name
where-same test other kind file name e = ap (λ b. nest_where b kind file name) e

pub where-false : (test : Bool) (kind : NestKind) (file name : List ℕ)
    → test ≡ false → nest_where test kind file name ≡ []
where-false test kind file name e = ap (λ b. nest_where b kind file name) e

-- where a test finds no fault it is false
pub none-false : (test : Bool) (kind : NestKind) (file name : List ℕ)
    → nest_where test kind file name ≡ [] → test ≡ false
none-false true kind file name e = cc
none-false false kind file name e = refl

-- two tests that are false together
pub never_both : (typed other b : Bool) → typed ≡ other → OnTrue typed (b ≡ false) → (other && b) ≡ false
never_both true true b e h = h
never_both false false b e h = refl
never_both true false b e h = refl
never_both false true b e h = absurd (true≢false (sym e))
