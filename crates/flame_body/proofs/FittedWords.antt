-- What words stand for fits, where they have no faults.
use Rattle.std.proofs.Common.{◌≡◌, ℕ, ◌+◌, ◌<◌, ◌≤◌, List, [], ◌∷◌, ◌++◌, length, Option, Some, None, Bool, true, false}
use Rattle.std.proofs.Common.{cond, refl, sym, ap, ◌∙◌, arith}
use Rattle.std.specs.Prelude.{is_some, nat_lt, nat_le, not, ◌||◌}
use Rattle.std.specs.Str.{bytes_eq}
use Rattle.std.proofs.lemmas.Option.{slice_get_within}
use Rattle.std.proofs.lemmas.Bool.{lt-ltb, and_parts, not-false}
use Rattle.flame_rows.proofs.Lists.{append-is_nil_left, append-is_nil_right}
use Rattle.flame_rows.proofs.Truths.{is_some-false, or-true_left, nat_le-true}
use Rattle.flame_ops.specs.Ascii.{capitals}
use Rattle.flame_spec.specs.declared.models.Model.{Model}
use Rattle.flame_spec.specs.declared.models.Variable.{Variable}
use Rattle.flame_spec.specs.declared.outcomes.Widths.{Widths}
use Rattle.flame_spec.specs.Columns.{width, width_by, width_of}
use Rattle.flame_spec.specs.ExpressionFaults.{gives_array, names_array, unknown_faults, bare_faults}
use Rattle.flame_spec.specs.Functions.{Place}
use Rattle.flame_spec.specs.LookUps.{Given, in_memory, constant, iteration, given, given_by, given_beside, memory_named}
use Rattle.flame_spec.specs.LookUps.{constant_named, is_iteration}
use Rattle.flame_spec.specs.Scopes.{Context, Sight, names_seen, memory_in, memory_at, given_at, is_local, is_visible}
use Rattle.flame_spec.specs.Scopes.{is_name_of}
use Rattle.flame_spec.proofs.FaultTests.{fault_where-none}
use Rattle.flame_spec.proofs.NamesLaid.{is_among-laid}
use Rattle.flame_body.specs.WordSlots.{local_number, slot_given, slot_or_given, slot_at}
use Rattle.flame_body.specs.FunctionBodies.{widths_in}
use Rattle.flame_body.specs.FitLaws.{Suits}
use Rattle.flame_body.specs.BodyFits.{Around, is_value, fit_of_slot, fit_of_bare, fit_of_value}
use Rattle.flame_body.proofs.Columned.{column-there, numbered-at}
use Rattle.flame_body.proofs.NamesSeen.{among-number}

pub memory-width : (model : Model) (runs : Option Place) → (widths_in model runs).memory ≡ width (memory_in runs)
memory-width model None = refl
memory-width model (Some place) = refl

pub constants-width : (model : Model) (runs : Option Place) → (widths_in model runs).constants ≡ length model.constants
constants-width model None = refl
constants-width model (Some place) = refl

pub bare-value : (b : Bool) (length : Option ℕ) → b ≡ true → length ≡ None → is_value (fit_of_bare b length) ≡ true
bare-value b length h n = ap (λ t. is_value (fit_of_bare t length)) h ∙ ap (λ o. is_value (fit_of_bare true o)) n

pub value-value : (b : Bool) → b ≡ true → is_value (fit_of_value b) ≡ true
value-value b h = ap (λ t. is_value (fit_of_value t)) h

-- what a word is that the model gives as a memory variable
given-memory :
    (found : Option (ℕ × Variable)) (constants : List (List ℕ)) (word : List ℕ) (c : ℕ) (v : Variable)
    → given_by found constants word ≡ Some (in_memory c v)
    → (f : ℕ × Variable) × (found ≡ Some f) × (f.0 ≡ c) × (f.1 ≡ v)
given-memory (Some f) constants word c v h =
    let same : in_memory f.0 f.1 ≡ in_memory c v = cc in
    (f, refl, (cc), (cc))
given-memory None constants word c v h = by_constant (constant_named constants word) h
  where
    Found : Type 0
    Found = (f : ℕ × Variable) × (◌≡◌ {A = Option (ℕ × Variable)} None (Some f)) × (f.0 ≡ c) × (f.1 ≡ v)

    by_word : (b : Bool) → cond b (Some iteration) None ≡ Some (in_memory c v) → Found
    by_word true e = absurd (cc)
    by_word false e = absurd (cc)

    by_constant : (found : Option (ℕ × List ℕ)) → given_beside found word ≡ Some (in_memory c v) → Found
    by_constant (Some f) g = absurd (cc)
    by_constant None g = by_word (is_iteration word) g

-- and as a constant
given-constant :
    (found : Option (ℕ × Variable)) (constants : List (List ℕ)) (word : List ℕ) (n : ℕ)
    → given_by found constants word ≡ Some (constant n)
    → n < length constants
given-constant (Some f) constants word n h = absurd (cc)
given-constant None constants word n h = by_constant (constant_named constants word) refl h
  where
    by_word : (b : Bool) → cond b (Some iteration) None ≡ Some (constant n) → n < length constants
    by_word true e = absurd (cc)
    by_word false e = absurd (cc)

    by_constant :
        (found : Option (ℕ × List ℕ))
        → constant_named constants word ≡ found
        → given_beside found word ≡ Some (constant n)
        → n < length constants
    by_constant (Some f) is g =
        let number : f.0 ≡ n = cc in
        let at = numbered-at (λ name. bytes_eq (capitals name) word) 0 constants f.0 f.1 is in
        let within = slice_get_within constants at.place f.1 at.there in
        omega (arith, at.number)
    by_constant None is g = by_word (is_iteration word) g

-- a memory variable that the model gives stands within the memory
pub given-within :
    (context : Context) (word : List ℕ) (c : ℕ) (v : Variable)
    → given_at context word ≡ Some (in_memory c v)
    → c + width_of v ≤ width (memory_at context)
given-within context word c v h =
    let found = given-memory (memory_named (memory_at context) word) context.model.constants word c v h in
    let within : found.0.0 + width_of found.0.1 ≤ width (memory_at context) =
    column-there (λ variable. bytes_eq (capitals variable.name) word) (memory_at context) found.0.0 found.0.1 found.1 in
    omega (arith, found.2, ap width_of found.3)

-- a name is a local where it has a number
pub local-seen : (sight : Sight) (word : List ℕ) → is_local sight word ≡ is_some (local_number (names_seen sight) word)
local-seen sight word = is_among-laid word (sight.scope ∷ sight.outer) ∙ among-number word (names_seen sight)

-- what the model gives fits, where it is no array
given-fits :
    (context : Context) (word : List ℕ) (widths : Widths) (found : Option Given)
    → widths ≡ widths_in context.model context.runs
    → given_at context word ≡ found
    → is_some found ≡ true
    → gives_array found ≡ false
    → is_value (fit_of_slot widths (slot_given found)) ≡ true
given-fits context word widths None w is some plain = absurd (cc)
given-fits context word widths (Some (in_memory c v)) w is some plain =
    let single : v.length ≡ None = is_some-false v.length plain in
    let within : c + width_of v ≤ width (memory_at context) = given-within context word c v is in
    let wide : widths.memory ≡ width (memory_at context) =
    ap (λ x. x.memory) w ∙ memory-width context.model context.runs in
    bare-value (nat_le (c + width_by v.length) widths.memory) v.length (nat_le-true _ _ (omega arith)) single
given-fits context word widths (Some (constant n)) w is some plain =
    let below : n < length context.model.constants =
    given-constant (memory_named (memory_at context) word) context.model.constants word n is in
    let wide : widths.constants ≡ length context.model.constants =
    ap (λ x. x.constants) w ∙ constants-width context.model context.runs in
    value-value (nat_lt n widths.constants) (lt-ltb _ _ (omega arith))
given-fits context word widths (Some iteration) w is some plain = refl

-- a visible name that is no array fits
pub name-fits :
    (context : Context) (sight : Sight) (around : Around) (line : ℕ) (word : List ℕ)
    → Suits context sight around
    → unknown_faults context sight line word ++ bare_faults context line word ≡ []
    → is_value (fit_of_slot around.widths (slot_at context sight word)) ≡ true
name-fits context sight around line word suits none =
    by_slot (local_number (names_seen sight) word) refl (given_at context word) refl
    (and_parts (not (is_name_of sight.own word)) (is_some (given_at context word) || is_local sight word) (not-false (is_visible context sight word) (fault_where-none (not (is_visible context sight word)) context _ line word
    (append-is_nil_left (unknown_faults context sight line word) (bare_faults context line word) none)))).1
    (fault_where-none (names_array context word) context _ line word
    (append-is_nil_right (unknown_faults context sight line word) (bare_faults context line word) none))
  where
    by_slot :
        (number : Option ℕ)
        → local_number (names_seen sight) word ≡ number
        → (found : Option Given)
        → given_at context word ≡ found
        → (is_some (given_at context word) || is_local sight word) ≡ true
        → gives_array (given_at context word) ≡ false
        → is_value (fit_of_slot around.widths (slot_or_given number found)) ≡ true
    by_slot (Some n) is found given visible plain = refl
    by_slot None is found given visible plain =
        given-fits context word around.widths found suits.widths given
        (or-true_left (is_some found) (is_local sight word)
        (ap (λ o. is_some o || is_local sight word) (sym given) ∙ visible)
        (local-seen sight word ∙ ap is_some is))
        (ap gives_array (sym given) ∙ plain)
