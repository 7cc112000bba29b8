-- Locals without their names, and how they are found by number.
use Rattle.std.proofs.Common.{◌≡◌, ℕ, zero, suc, ◌<◌, Bool, true, false, cond, List, [], ◌∷◌, map, length, drop, Option, Some, None}
use Rattle.std.proofs.Common.{refl, sym, ap, ◌∙◌, arith}
use Rattle.std.specs.Prelude.{ℤ, ◌==◌}
use Rattle.std.specs.Str.{bytes_eq}
use Rattle.std.proofs.lemmas.Bool.{eq-eqb}
use Rattle.flame_rows.proofs.Truths.{eqb-above}
use Rattle.flame_body.specs.WordSlots.{local_number}
use Rattle.flame_meaning.specs.Scenes.{Local, local_value}
use Rattle.flame_meaning.specs.Statements.{set_local}
use Rattle.flame_meaning.specs.Agreement.{names_of}
use Rattle.flame_number_laws.specs.NumberedScenes.{nameless, local_at, set_local_at}
use Rattle.flame_body.proofs.NamesSeen.{number-below}

-- the same locals without names
abbrev pub bare : List Local → List Local
bare locals = map (λ local. nameless local.value) locals

pub length-bare : (locals : List Local) → length (bare locals) ≡ length locals
length-bare [] = refl
length-bare (local ∷ locals) = ap suc (length-bare locals)

length-names : (locals : List Local) → length (names_of locals) ≡ length locals
length-names [] = refl
length-names (local ∷ locals) = ap suc (length-names locals)

pub drop-bare : (n : ℕ) (locals : List Local) → bare (drop n locals) ≡ drop n (bare locals)
drop-bare zero locals = refl
drop-bare (suc n) [] = refl
drop-bare (suc n) (local ∷ locals) = drop-bare n locals

-- a local without a number has no value
pub no-value : (word : List ℕ) (locals : List Local) → local_number (names_of locals) word ≡ None → local_value word locals ≡ None
no-value word [] is = refl
no-value word (local ∷ locals) is = by_test (bytes_eq local.name word) is (no-value word locals)
  where
    by_test :
        (b : Bool)
        → cond b (Some (length (names_of locals))) (local_number (names_of locals) word) ≡ None
        → (local_number (names_of locals) word ≡ None → local_value word locals ≡ None)
        → cond b (Some local.value) (local_value word locals) ≡ None
    by_test true g more = absurd (cc)
    by_test false g more = more g

-- the newest local of this name has this number among them all
here :
    (locals : List Local) (number : ℕ)
    → ◌≡◌ {A = Option ℕ} (Some (length (names_of locals))) (Some number)
    → (length (bare locals) == number) ≡ true
here locals number g =
    let n : length (names_of locals) ≡ number = cc in
    eq-eqb (length (bare locals)) number (length-bare locals ∙ sym (length-names locals) ∙ n)

-- an older one has another number
older :
    (word : List ℕ) (locals : List Local) (number : ℕ)
    → local_number (names_of locals) word ≡ Some number
    → (length (bare locals) == number) ≡ false
older word locals number g =
    let below : number < length (names_of locals) = number-below word (names_of locals) number g in
    let long : length (bare locals) ≡ length (names_of locals) = length-bare locals ∙ sym (length-names locals) in
    eqb-above (length (bare locals)) number (omega arith)

-- a local of this number has its value
pub value-found :
    (word : List ℕ) (locals : List Local) (number : ℕ)
    → local_number (names_of locals) word ≡ Some number
    → local_value word locals ≡ Some (local_at number (bare locals))
value-found word [] number is = absurd (cc)
value-found word (local ∷ locals) number is = by_test (bytes_eq local.name word) is (value-found word locals number)
  where
    by_test :
        (b : Bool)
        → cond b (Some (length (names_of locals))) (local_number (names_of locals) word) ≡ Some number
        → (local_number (names_of locals) word ≡ Some number → local_value word locals ≡ Some (local_at number (bare locals)))
        → cond b (Some local.value) (local_value word locals)
        ≡ Some (cond (length (bare locals) == number) local.value (local_at number (bare locals)))
    by_test true g more = sym (ap (λ b. Some (cond b local.value (local_at number (bare locals)))) (here locals number g))
    by_test false g more =
        more g ∙ sym (ap (λ b. Some (cond b local.value (local_at number (bare locals)))) (older word locals number g))

-- a local of this number is set
pub set-found :
    (word : List ℕ) (v : ℤ) (locals : List Local) (number : ℕ)
    → local_number (names_of locals) word ≡ Some number
    → bare (set_local word v locals) ≡ set_local_at number v (bare locals)
set-found word v [] number is = absurd (cc)
set-found word v (local ∷ locals) number is = by_test (bytes_eq local.name word) is (set-found word v locals number)
  where
    by_test :
        (b : Bool)
        → cond b (Some (length (names_of locals))) (local_number (names_of locals) word) ≡ Some number
        → (local_number (names_of locals) word ≡ Some number → bare (set_local word v locals) ≡ set_local_at number v (bare locals))
        → bare (cond b (record { name = local.name; value = v } ∷ locals) (local ∷ set_local word v locals))
        ≡ cond (length (bare locals) == number) (nameless v ∷ bare locals) (nameless local.value ∷ set_local_at number v (bare locals))
    by_test true g more =
        sym (ap (λ b. cond b (nameless v ∷ bare locals) (nameless local.value ∷ set_local_at number v (bare locals))) (here locals number g))
    by_test false g more =
        ap (λ l. nameless local.value ∷ l) (more g)
        ∙ sym (ap (λ b. cond b (nameless v ∷ bare locals) (nameless local.value ∷ set_local_at number v (bare locals))) (older word locals number g))
