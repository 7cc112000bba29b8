-- A mark is set once, and marks in order give a list of those that pass.
use mathlib.Core.Bool.{or-true}
use Rattle.std.proofs.Common.{◌≡◌, ℕ, zero, suc, ◌+◌, ◌-◌, List, [], ◌∷◌, ◌++◌, length, refl, sym, ap, ◌∙◌, arith, true, false, Bool, cond}
use Rattle.std.specs.Prelude.{◌==◌, ◌&&◌, ◌||◌, slice_get}
use Rattle.std.proofs.lemmas.Bool.{eq-eqb, false≢true, le-ltb}
use Rattle.std.proofs.lemmas.List.{length_push, append-nil}
use Rattle.flame_rows.proofs.Lists.{slice_get-behind}
use Rattle.flame_spec.specs.Below.{all_below, is_in}
use Rattle.flame_spec.proofs.FirstBelow.{is_in-all_below}
use Rattle.flame_graph.specs.Marks.{is_it, marked, marked_where}

is_last : (g : ℕ) (xs : List ℕ) → is_it g (slice_get (xs ++ g ∷ []) (length (xs ++ g ∷ []) - 1)) ≡ true
is_last g xs =
    let e : length (xs ++ g ∷ []) - 1 ≡ length xs = omega (arith, length_push xs g) in
    ap (λ k. is_it g (slice_get (xs ++ g ∷ []) k)) e ∙ ap (is_it g) (slice_get-behind xs g []) ∙ eq-eqb g g refl

marked_twice : (g : ℕ) (xs : List ℕ) → marked g (marked g xs) ≡ marked g xs
marked_twice g xs = go (is_it g (slice_get xs (length xs - 1))) refl
  where
    go : (b : Bool) → is_it g (slice_get xs (length xs - 1)) ≡ b → marked g (cond b xs (xs ++ g ∷ [])) ≡ cond b xs (xs ++ g ∷ [])
    go true e = ap (λ b. cond b xs (xs ++ g ∷ [])) e
    go false e = ap (λ b. cond b (xs ++ g ∷ []) ((xs ++ g ∷ []) ++ g ∷ [])) (is_last g xs)

at_is_in : (g : ℕ) (xs : List ℕ) (i : ℕ) → is_it g (slice_get xs i) ≡ true → is_in g xs ≡ true
at_is_in g [] i h = absurd (false≢true h)
at_is_in g (x ∷ xs) zero h = ap (λ b. b || is_in g xs) h
at_is_in g (x ∷ xs) (suc i) h = ap (λ b. (x == g) || b) (at_is_in g xs i h) ∙ or-true (x == g)

marked_new : (g : ℕ) (xs : List ℕ) → is_in g xs ≡ false → marked g xs ≡ xs ++ g ∷ []
marked_new g xs h = go (is_it g (slice_get xs (length xs - 1))) refl
  where
    go : (b : Bool) → is_it g (slice_get xs (length xs - 1)) ≡ b → cond b xs (xs ++ g ∷ []) ≡ xs ++ g ∷ []
    go true e = absurd (false≢true (sym h ∙ at_is_in g xs (length xs - 1) e))
    go false e = refl

pub marked_or : (g : ℕ) (a b : Bool) (xs : List ℕ) → marked_where g b (marked_where g a xs) ≡ marked_where g (a || b) xs
marked_or g true true xs = marked_twice g xs
marked_or g true false xs = refl
marked_or g false b xs = refl

-- one number more is marked, or passed over
pub marked_more : (test : ℕ → Bool) (i : ℕ) (b : Bool) → b ≡ test i → marked_where i b (all_below test i) ≡ all_below test (i + 1)
marked_more test i b e =
    let more : suc i ≡ i + 1 = omega arith in
    let past : is_in i (all_below test i) ≡ false = is_in-all_below test i i ∙ ap (λ t. t && test i) (le-ltb i i (omega arith)) in
    go past b e ∙ ap (all_below test) more
  where
    go : is_in i (all_below test i) ≡ false → (b : Bool) → b ≡ test i → marked_where i b (all_below test i) ≡ all_below test (suc i)
    go past true q = marked_new i (all_below test i) past ∙ ap (λ t. all_below test i ++ cond t (i ∷ []) []) q
    go past false q = sym (append-nil (all_below test i)) ∙ ap (λ t. all_below test i ++ cond t (i ∷ []) []) q
