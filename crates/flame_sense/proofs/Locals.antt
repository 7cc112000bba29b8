-- The visible locals: the newest first in definitions, the newest last in the program.
use Rattle.std.proofs.Common.{◌≡◌, ℕ, ◌+◌, ◌-◌, ◌<◌, List, [], ◌∷◌, ◌++◌, length, take, drop, get_or, refl, sym, ap, ◌∙◌, Bool, true, false, cond, Some, None, arith, append_assoc, add-one, length-drop}
use Rattle.std.specs.Prelude.{ℤ, reverse, map, slice_set}
use Rattle.std.specs.Str.{bytes_eq}
use Rattle.std.proofs.lemmas.List.{reverse-append, map-append, at_drop_more, take-append-drop, set_split, length-reverse, length-map}
use Rattle.std.proofs.Math.Seq.{drop-append_seam}
use Rattle.flame_sense.specs.declared.scene.Local as variable
use Rattle.flame_meaning.specs.Scenes.{Local, local_value}
use Rattle.flame_meaning.specs.Statements.{set_local}
use Rattle.flame_sense.specs.StandsFor.{local_of, visible, StandsAt}

pub visible-append : (xs ys : List variable.Local) → visible (xs ++ ys) ≡ visible ys ++ visible xs
visible-append xs ys = ap reverse (map-append local_of xs ys) ∙ reverse-append (map local_of xs) (map local_of ys)

pub visible-cons : (x : variable.Local) (xs : List variable.Local) → visible (x ∷ xs) ≡ visible xs ++ local_of x ∷ []
visible-cons x xs = reverse-append (local_of x ∷ []) (map local_of xs)

-- newer locals of other names hide nothing
value_behind :
    (word : List ℕ) (xs ys : List Local)
    → local_value word xs ≡ None
    → local_value word (xs ++ ys) ≡ local_value word ys
value_behind word [] ys h = refl
value_behind word (x ∷ xs) ys h = by_test (bytes_eq x.name word) (value_behind word xs ys) h
  where
    by_test :
        (b : Bool)
        → (local_value word xs ≡ None → local_value word (xs ++ ys) ≡ local_value word ys)
        → cond b (Some x.value) (local_value word xs) ≡ None
        → cond b (Some x.value) (local_value word (xs ++ ys)) ≡ local_value word ys
    by_test true more g = cc
    by_test false more g = more g

set_behind :
    (word : List ℕ) (v : ℤ) (xs ys : List Local)
    → local_value word xs ≡ None
    → set_local word v (xs ++ ys) ≡ xs ++ set_local word v ys
set_behind word v [] ys h = refl
set_behind word v (x ∷ xs) ys h = by_test (bytes_eq x.name word) (set_behind word v xs ys) h
  where
    by_test :
        (b : Bool)
        → (local_value word xs ≡ None → set_local word v (xs ++ ys) ≡ xs ++ set_local word v ys)
        → cond b (Some x.value) (local_value word xs) ≡ None
        → cond b (record { name = x.name; value = v } ∷ (xs ++ ys)) (x ∷ set_local word v (xs ++ ys)) ≡ x ∷ (xs ++ set_local word v ys)
    by_test true more g = cc
    by_test false more g = ap (λ l. x ∷ l) (more g)

-- the locals round one of them
around :
    (locals : List variable.Local) (i : ℕ) (x : variable.Local)
    → visible (take i locals ++ x ∷ drop (i + 1) locals)
    ≡ visible (drop (i + 1) locals) ++ local_of x ∷ visible (take i locals)
around locals i x =
    visible-append (take i locals) (x ∷ drop (i + 1) locals)
    ∙ ap (λ l. l ++ visible (take i locals)) (visible-cons x (drop (i + 1) locals))
    ∙ append_assoc (visible (drop (i + 1) locals)) (local_of x ∷ []) (visible (take i locals))

split :
    (locals : List variable.Local) (i : ℕ) (d : variable.Local)
    → i < length locals
    → locals ≡ take i locals ++ get_or locals i d ∷ drop (i + 1) locals
split locals i d h =
    sym (take-append-drop i locals)
    ∙ ap (λ l. take i locals ++ l) (at_drop_more (λ l. l) locals i d h)

pub value_there :
    (word : List ℕ) (locals : List variable.Local) (i : ℕ) (d : variable.Local)
    → StandsAt word locals i
    → local_value word (visible locals) ≡ Some (get_or locals i d).value
value_there word locals i d at =
    ap (λ l. local_value word (visible l)) (split locals i d at.within)
    ∙ ap (local_value word) (around locals i (get_or locals i d))
    ∙ value_behind word (visible (drop (i + 1) locals)) (local_of (get_or locals i d) ∷ visible (take i locals)) at.newest
    ∙ ap (λ b. cond b (Some (get_or locals i d).value) (local_value word (visible (take i locals)))) (at.named d)

pub set_there :
    (word : List ℕ) (v : ℤ) (locals : List variable.Local) (i : ℕ) (d x : variable.Local)
    → StandsAt word locals i
    → local_of x ≡ record { name = (get_or locals i d).name.now; value = v }
    → set_local word v (visible locals) ≡ visible (slice_set locals i x)
set_there word v locals i d x at is =
    ap (λ l. set_local word v (visible l)) (split locals i d at.within)
    ∙ ap (set_local word v) (around locals i (get_or locals i d))
    ∙ set_behind word v (visible (drop (i + 1) locals)) (local_of (get_or locals i d) ∷ visible (take i locals)) at.newest
    ∙ ap (λ b. visible (drop (i + 1) locals)
    ++ cond b (record { name = (get_or locals i d).name.now; value = v } ∷ visible (take i locals))
    (local_of (get_or locals i d) ∷ set_local word v (visible (take i locals)))) (at.named d)
    ∙ ap (λ l. visible (drop (i + 1) locals) ++ l ∷ visible (take i locals)) (sym is)
    ∙ sym (around locals i x)
    ∙ ap visible (ap (λ n. take i locals ++ x ∷ drop n locals) (add-one i) ∙ sym (set_split locals i x at.within))

-- a local of another name is looked past
pub looked_past :
    (word : List ℕ) (locals : List variable.Local) (i : ℕ) (d : variable.Local)
    → i < length locals
    → bytes_eq (get_or locals i d).name.now word ≡ false
    → local_value word (visible (drop (i + 1) locals)) ≡ None
    → local_value word (visible (drop i locals)) ≡ None
looked_past word locals i d h other newer =
    ap (λ l. local_value word (visible l)) (at_drop_more (λ l. l) locals i d h)
    ∙ ap (local_value word) (visible-cons (get_or locals i d) (drop (i + 1) locals))
    ∙ value_behind word (visible (drop (i + 1) locals)) (local_of (get_or locals i d) ∷ []) newer
    ∙ ap (λ b. cond b (Some (get_or locals i d).value) None) other

pub length-visible : (locals : List variable.Local) → length (visible locals) ≡ length locals
length-visible locals = length-reverse (map local_of locals) ∙ length-map locals local_of

-- the locals that remain when the newest end
pub visible-take :
    (n : ℕ) (locals : List variable.Local)
    → visible (take n locals) ≡ drop (length (visible locals) - n) (visible locals)
visible-take n locals =
    let long : length (visible locals) - n ≡ length (visible (drop n locals)) =
    omega (arith, length-visible locals, length-visible (drop n locals), length-drop n locals) in
    sym (ap (λ k. drop k (visible locals)) long
    ∙ ap (λ l. drop (length (visible (drop n locals))) (visible l)) (sym (take-append-drop n locals))
    ∙ ap (drop (length (visible (drop n locals)))) (visible-append (take n locals) (drop n locals))
    ∙ drop-append_seam (visible (drop n locals)) (visible (take n locals)))
