-- The states that a function leaves and enters are states of its type.
use mathlib.Core.Bool.{or-true}
use Rattle.std.proofs.Common.{◌≡◌, ℕ, zero, suc, ◌+◌, ◌<◌, Bool, true, false, cond, List, [], ◌∷◌, ◌++◌, length, Some, refl, sym, ap, ◌∙◌, arith, subst}
use Rattle.std.specs.Prelude.{not, ◌||◌, slice_get}
use Rattle.std.specs.List.{list_any, position_or_len}
use Rattle.std.specs.Str.{bytes_eq}
use Rattle.std.proofs.lemmas.Slice.Eq.{bytes_eq-Decides}
use Rattle.std.proofs.lemmas.List.Folds.{list_any-append}
use Rattle.std.proofs.lemmas.Bool.{false≢true}
use Rattle.flame_rows.proofs.Bytes.{bytes_eq-self}
use Rattle.flame_spec.specs.declared.models.Function.{Function}
use Rattle.flame_spec.specs.KnownNames.{is_among}
use Rattle.flame_spec.specs.States.{distinct_after, ends, states}

-- where one passes, the first that does has a place in the list
pub any_position : {X : Type 0} (p : X → Bool) (xs : List X) → list_any p xs ≡ true → position_or_len p xs < length xs
any_position p [] any = absurd cc
any_position p (x ∷ xs) any =
    (elim (p x) as (λ t. (t || list_any p xs) ≡ true → cond (not t) (1 + position_or_len p xs) 0 < suc (length xs)) [
      | true ↦ λ here. omega arith
      | false ↦ λ later. omega (arith, any_position p xs later)
    ])
    any

module _ (state : List ℕ) where
  abbrev is_it : List ℕ → Bool
  is_it other = bytes_eq other state

  among-is_it : (text : List ℕ) (earlier : List (List ℕ)) → is_it text ≡ true → is_among text earlier ≡ true → list_any is_it earlier ≡ true
  among-is_it text earlier here among =
      let same : text ≡ state = (bytes_eq-Decides text state).0 here in
      go earlier (subst (λ t. is_among t earlier ≡ true) same among)
    where
      go : (texts : List (List ℕ)) → list_any (bytes_eq state) texts ≡ true → list_any is_it texts ≡ true
      go [] any = any
      go (other ∷ texts) any =
          (elim (bytes_eq state other) as (λ t. bytes_eq state other ≡ t → (t || list_any (bytes_eq state) texts) ≡ true → (bytes_eq other state || list_any is_it texts) ≡ true) [
            | true ↦ λ found _.
                let same : state ≡ other = (bytes_eq-Decides state other).0 found in
                ap (λ t. t || list_any is_it texts) ((bytes_eq-Decides other state).1 (sym same))
            | false ↦ λ _ later. ap (λ t. bytes_eq other state || t) (go texts later) ∙ or-true (bytes_eq other state)
          ])
          refl any

  any_distinct : (earlier texts : List (List ℕ)) → list_any is_it earlier ≡ false → list_any is_it texts ≡ true → list_any is_it (distinct_after earlier texts) ≡ true
  any_distinct earlier [] none any = any
  any_distinct earlier (text ∷ texts) none any =
      (elim (is_among text earlier) as (λ t. is_among text earlier ≡ t
      → list_any is_it (cond t (distinct_after earlier texts) (text ∷ distinct_after (earlier ++ text ∷ []) texts)) ≡ true) [
        | true ↦ λ among.
            (elim (is_it text) as (λ t. is_it text ≡ t → (t || list_any is_it texts) ≡ true → list_any is_it (distinct_after earlier texts) ≡ true) [
              | true ↦ λ here _. absurd (false≢true (sym none ∙ among-is_it text earlier here among))
              | false ↦ λ _ later. any_distinct earlier texts none later
            ])
            refl any
        | false ↦ λ _.
            (elim (is_it text) as (λ t. is_it text ≡ t → (t || list_any is_it texts) ≡ true → (t || list_any is_it (distinct_after (earlier ++ text ∷ []) texts)) ≡ true) [
              | true ↦ λ _ _. refl
              | false ↦ λ differs later.
                  any_distinct (earlier ++ text ∷ []) texts
                  (list_any-append is_it earlier (text ∷ []) ∙ (λ i. none i || (differs i || false))) later
            ])
            refl any
      ])
      refl

pub any_end : (functions : List Function) (j : ℕ) (function : Function) → slice_get functions j ≡ Some function → list_any (is_it function.next) (ends functions) ≡ true
any_end [] j function at = absurd cc
any_end (own ∷ functions) zero function at =
    let same : own ≡ function = cc in
    subst (λ (f : Function). list_any (is_it f.next) (ends (own ∷ functions)) ≡ true) same
    (ap (λ t. bytes_eq own.current own.next || (t || list_any (is_it own.next) (ends functions))) (bytes_eq-self own.next) ∙ or-true (bytes_eq own.current own.next))
any_end (own ∷ functions) (suc j) function at =
    ap (λ t. is_it function.next own.current || (is_it function.next own.next || t)) (any_end functions j function at)
    ∙ ap (λ t. is_it function.next own.current || t) (or-true (is_it function.next own.next))
    ∙ or-true (is_it function.next own.current)

pub next_state : (functions : List Function) (j : ℕ) (function : Function)
    → slice_get functions j ≡ Some function
    → position_or_len (λ other. bytes_eq other function.next) (states functions) < length (states functions)
next_state [] j function at = absurd cc
next_state (own ∷ functions) j function at =
    any_position (is_it function.next) (states (own ∷ functions))
    (any_distinct function.next [] (ends (own ∷ functions)) refl (any_end (own ∷ functions) j function at))

any_begin : (functions : List Function) (j : ℕ) (function : Function) → slice_get functions j ≡ Some function → list_any (is_it function.current) (ends functions) ≡ true
any_begin [] j function at = absurd cc
any_begin (own ∷ functions) zero function at =
    let same : own ≡ function = cc in
    subst (λ (f : Function). list_any (is_it f.current) (ends (own ∷ functions)) ≡ true) same
    (ap (λ t. t || list_any (is_it own.current) (own.next ∷ ends functions)) (bytes_eq-self own.current))
any_begin (own ∷ functions) (suc j) function at =
    ap (λ t. is_it function.current own.current || (is_it function.current own.next || t)) (any_begin functions j function at)
    ∙ ap (λ t. is_it function.current own.current || t) (or-true (is_it function.current own.next))
    ∙ or-true (is_it function.current own.current)

pub current_state : (functions : List Function) (j : ℕ) (function : Function)
    → slice_get functions j ≡ Some function
    → position_or_len (λ other. bytes_eq other function.current) (states functions) < length (states functions)
current_state [] j function at = absurd cc
current_state (own ∷ functions) j function at =
    any_position (is_it function.current) (states (own ∷ functions))
    (any_distinct function.current [] (ends (own ∷ functions)) refl (any_begin (own ∷ functions) j function at))
