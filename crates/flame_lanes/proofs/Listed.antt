-- Messages that are listed, each once.
use Rattle.std.proofs.Common.{◌≡◌, ℕ, zero, suc, ◌<◌, true, false, cond, ltb, ◌||◌, ◌⊎◌, inl, inr, List, [], ◌∷◌, ◌++◌, length, set, Option, Some, None, refl, sym, ap, ◌∙◌, ⊎_elim}
use Rattle.std.specs.Prelude.{◌==◌, slice_get, IfSome}
use Rattle.std.specs.Option.{is_some}
use Rattle.std.proofs.lemmas.Bool.{cases_eq, eq-eqb, lt-ltb, ne_eqb, true≢false, false_from_ne_true}
use Rattle.std.proofs.lemmas.Option.{same_Some, slice_get_within}
use Rattle.flame_rows.proofs.Lists.{list_any-at, slice_get-set_same, slice_get-set_other}
use Rattle.flame_spec.specs.Below.{is_in}
use Rattle.flame_lanes.specs.ListedMessages.{AreOnce, HavePlaces, with_message}

-- ---- what stands at a place

-- what is at a place in the longer list was there, or is the last
got-either : (xs : List ℕ) (x place y : ℕ) → slice_get (xs ++ x ∷ []) place ≡ Some y
    → (slice_get xs place ≡ Some y) ⊎ ((place ≡ length xs) × (y ≡ x))
got-either [] x zero y at = inr (refl, cc)
got-either [] x (suc place) y at = absurd (cc)
got-either (z ∷ xs) x zero y at = inl at
got-either (z ∷ xs) x (suc place) y at =
    ⊎_elim (λ there. inl there) (λ last. inr (ap suc last.0, last.1)) (got-either xs x place y at)

-- nothing stands past the end
pub none-beyond : {X : Type 0} (xs : List X) (place : ℕ) (x : X)
    → false ≡ ltb place (length xs) → slice_get xs place ≡ Some x → ⊥
none-beyond xs place x over at = true≢false (sym (lt-ltb place (length xs) (slice_get_within xs place x at)) ∙ sym over)

-- ---- what is in the list

pub is_in-place : (listed : List ℕ) (place message : ℕ) → slice_get listed place ≡ Some message → is_in message listed ≡ true
is_in-place listed place message at =
    list_any-at (λ other. other == message) listed place message at (eq-eqb message message refl)

pub place-is_in : (listed : List ℕ) (message : ℕ) → is_in message listed ≡ true
    → (place : ℕ) × (slice_get listed place ≡ Some message)
place-is_in [] message there = absurd (true≢false (sym there))
place-is_in (own ∷ listed) message there =
    ⊎_elim
    (λ (same : own ≡ message). here same)
    (λ (apart : own ≡ message → ⊥). later (place-is_in listed message (ap (λ b. b || is_in message listed) (sym (ne_eqb own message apart)) ∙ there)))
    (cases_eq own message)
  where
    here : own ≡ message → (place : ℕ) × (slice_get (own ∷ listed) place ≡ Some message)
    here same = (0, ap Some same)

    later : (place : ℕ) × (slice_get listed place ≡ Some message) → (place : ℕ) × (slice_get (own ∷ listed) place ≡ Some message)
    later found = (suc found.0, found.1)

-- where each has its place, one that has none is not listed
pub none-listed : (listed places : List ℕ) (message : ℕ) → HavePlaces listed places
    → ((place : ℕ) → slice_get places message ≡ Some place → slice_get listed place ≡ Some message → ⊥)
    → is_in message listed ≡ false
none-listed listed places message have none = false_from_ne_true (is_in message listed) (λ there.
    let found = place-is_in listed message there in
    none found.0 (have found.0 message found.1) found.1)

-- ---- one more

-- places for more
pub have-room : (listed places roomy : List ℕ) → HavePlaces listed places
    → ((other place : ℕ) → slice_get places other ≡ Some place → slice_get roomy other ≡ Some place)
    → HavePlaces listed roomy
have-room listed places roomy have kept place message at = kept message place (have place message at)

-- one more is listed, in the last place
pub have-more : (listed places : List ℕ) (message place : ℕ) → HavePlaces listed places
    → is_in message listed ≡ false → place ≡ length listed → message < length places
    → HavePlaces (listed ++ message ∷ []) (set places message place)
have-more listed places message place have new last room = λ other one at.
    ⊎_elim
    (λ (there : slice_get listed other ≡ Some one).
    slice_get-set_other places message one place
    (λ same. true≢false (sym (is_in-place listed other message (there ∙ ap Some (sym same))) ∙ new))
    ∙ have other one there)
    (λ (at_end : (other ≡ length listed) × (one ≡ message)).
    ap (slice_get (set places message place)) at_end.1
    ∙ slice_get-set_same places message place room
    ∙ ap Some (last ∙ sym at_end.0))
    (got-either listed message other one at)

-- ---- each once

pub with_message-old : (message : ℕ) (listed : List ℕ) → is_in message listed ≡ true → with_message message listed ≡ listed
with_message-old message listed there = ap (λ b. cond b listed (listed ++ message ∷ [])) there

-- one that is found
pub with_message-found : (message : ℕ) (listed : List ℕ) (found : Option ℕ)
    → IfSome found (λ place. slice_get listed place ≡ Some message) → is_some found ≡ true → listed ≡ with_message message listed
with_message-found message listed (Some place) there is =
    sym (with_message-old message listed (is_in-place listed place message there))
with_message-found message listed None there is = absurd (true≢false (sym is))

-- ---- each once

-- where each has its place, none stands in two
pub listed-once : (listed places : List ℕ) → HavePlaces listed places → AreOnce listed
listed-once listed places have one other message at there =
    same_Some one other (sym (have one message at) ∙ have other message there)
