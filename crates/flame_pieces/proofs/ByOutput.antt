-- Messages parted by outputs, one after another.
use Rattle.std.proofs.Common.{◌≡◌, ℕ, zero, suc, ◌<◌, ◌≤◌, Bool, true, false, cond, List, [], ◌∷◌, ◌++◌, map, Option, Some, None, refl, sym, ap, ◌∙◌, subst, arith, ⊎_elim, length, append-nil}
use Rattle.std.specs.Prelude.{slice_set, slice_index_or, ◌==◌, nat_lt}
use Rattle.std.specs.List.{position, position_or_len}
use Rattle.std.proofs.lemmas.Bool.{eq-eqb, ne_eqb, cases_eq, ltb-true, ltb-false}
use Rattle.std.proofs.lemmas.List.Sums.{sum_by-cons}
use Rattle.std.proofs.lemmas.Option.{cond_some}
use Rattle.flame_spec.specs.Below.{times, HasNoTwice}
use Rattle.flame_spec.specs.declared.outcomes.Sent.{Sent}
use Rattle.flame_spec.proofs.NoTwice.{later-once}
use Rattle.flame_world.specs.AgentRuns.{messages_of}
use Rattle.flame_events.proofs.Holding.{messages_of-append}
use Rattle.flame_pieces.proofs.KeptParts.{place-cons, apart_head, none_or_some, stands, stands_behind}

one_message : (one : Sent) (message : ℕ) → messages_of (one ∷ []) message ≡ cond (one.message == message) (one.row ∷ []) []
one_message one message =
    elim (one.message == message) as (λ t. map (λ (s : Sent). s.row) (cond t (one ∷ []) []) ≡ cond t (one.row ∷ []) []) [ true ↦ refl | false ↦ refl ]

-- one message more
more_same : (sent : List Sent) (one : Sent) (message : ℕ) → one.message ≡ message
    → messages_of (sent ++ one ∷ []) message ≡ messages_of sent message ++ one.row ∷ []
more_same sent one message same =
    messages_of-append message sent (one ∷ [])
    ∙ ap (λ l. messages_of sent message ++ l)
    (one_message one message ∙ ap (λ (t : Bool). cond t (one.row ∷ []) []) (eq-eqb one.message message same))

more_other : (sent : List Sent) (one : Sent) (message : ℕ) → (one.message ≡ message → ⊥)
    → messages_of (sent ++ one ∷ []) message ≡ messages_of sent message
more_other sent one message apart =
    messages_of-append message sent (one ∷ [])
    ∙ ap (λ l. messages_of sent message ++ l)
    (one_message one message ∙ ap (λ (t : Bool). cond t (one.row ∷ []) []) (ne_eqb one.message message apart))
    ∙ append-nil (messages_of sent message)

-- it is of none of these outputs
none_more : (sent : List Sent) (one : Sent) (outputs : List ℕ) → ((message : ℕ) → 1 ≤ times message outputs → one.message ≡ message → ⊥)
    → map (messages_of sent) outputs ≡ map (messages_of (sent ++ one ∷ [])) outputs
none_more sent one [] apart = refl
none_more sent one (output ∷ outputs) apart =
    let here = sym (more_other sent one output (apart output (stands output outputs))) in
    let rest = none_more sent one outputs (λ message there. apart message (stands_behind message output outputs there)) in
    λ i. here i ∷ rest i

abbrev pub place_of : ℕ → List ℕ → ℕ
place_of message outputs = position_or_len (λ o. o == message) outputs

-- it is of the output at this place
at_place : (sent : List Sent) (one : Sent) (outputs : List ℕ) (k : ℕ) → HasNoTwice outputs → k < length outputs → place_of one.message outputs ≡ k
    → slice_set (map (messages_of sent) outputs) k (slice_index_or (map (messages_of sent) outputs) k [] ++ one.row ∷ [])
    ≡ map (messages_of (sent ++ one ∷ [])) outputs
at_place sent one [] k once within place = absurd (omega (arith, within))
at_place sent one (output ∷ outputs) k once within place =
    let olds = map (messages_of sent) (output ∷ outputs) in
    let P : ℕ → Type 0 = λ n. slice_set olds n (slice_index_or olds n [] ++ one.row ∷ []) ≡ map (messages_of (sent ++ one ∷ [])) (output ∷ outputs) in
    ⊎_elim
    (λ (same : output ≡ one.message).
    let here : place_of one.message (output ∷ outputs) ≡ zero = place-cons one.message output outputs
    ∙ ap (λ t. cond t zero (suc (place_of one.message outputs))) (eq-eqb output one.message same) in
    let first = sym (more_same sent one output (sym same)) in
    let rest = none_more sent one outputs (λ message there is. apart_head output outputs once message there (same ∙ is)) in
    subst P (sym here ∙ place) (λ i. first i ∷ rest i))
    (λ (apart : output ≡ one.message → ⊥).
    let here : place_of one.message (output ∷ outputs) ≡ suc (place_of one.message outputs) = place-cons one.message output outputs
    ∙ ap (λ t. cond t zero (suc (place_of one.message outputs))) (ne_eqb output one.message apart) in
    let first = sym (more_other sent one output (λ is. apart (sym is))) in
    let rest = at_place sent one outputs (place_of one.message outputs) (later-once output outputs once)
    (omega (arith, within, here, place)) refl in
    subst P (sym here ∙ place) (λ i. first i ∷ rest i))
    (cases_eq output one.message)

nowhere : (one : Sent) (outputs : List ℕ) → length outputs ≤ place_of one.message outputs
    → (message : ℕ) → 1 ≤ times message outputs → one.message ≡ message → ⊥
nowhere one [] past message there same = absurd (omega (arith, there))
nowhere one (output ∷ outputs) past message there same =
    ⊎_elim
    (λ (here : output ≡ one.message).
    let first : place_of one.message (output ∷ outputs) ≡ zero = place-cons one.message output outputs
    ∙ ap (λ t. cond t zero (suc (place_of one.message outputs))) (eq-eqb output one.message here) in
    absurd (omega (arith, past, first)))
    (λ (apart : output ≡ one.message → ⊥).
    let later : place_of one.message (output ∷ outputs) ≡ suc (place_of one.message outputs) = place-cons one.message output outputs
    ∙ ap (λ t. cond t zero (suc (place_of one.message outputs))) (ne_eqb output one.message apart) in
    let counted = sum_by-cons (λ o. cond (o == message) 1 0) output outputs in
    let none = ap {B = ℕ} (λ (t : Bool). cond t 1 0) (ne_eqb output message (λ is. apart (is ∙ sym same))) in
    nowhere one outputs (omega (arith, past, later)) message (omega (arith, counted, none, there)) same)
    (cases_eq output one.message)

-- ---- by the place that is found

pub found_within : (message : ℕ) (outputs : List ℕ) (k : ℕ) → position (λ o. o == message) outputs ≡ Some k → k < length outputs
found_within message outputs k found =
    let place = place_of message outputs in
    let parts = cond_some (nat_lt place (length outputs)) place k found in
    omega (arith, ltb-true place (length outputs) parts.0, parts.1)

pub found_more : (sent : List Sent) (one : Sent) (outputs : List ℕ) (k : ℕ) → HasNoTwice outputs
    → position (λ o. o == one.message) outputs ≡ Some k
    → slice_set (map (messages_of sent) outputs) k (slice_index_or (map (messages_of sent) outputs) k [] ++ one.row ∷ [])
    ≡ map (messages_of (sent ++ one ∷ [])) outputs
found_more sent one outputs k once found =
    let place = place_of one.message outputs in
    let parts = cond_some (nat_lt place (length outputs)) place k found in
    let within = ltb-true place (length outputs) parts.0 in
    at_place sent one outputs k once (omega (arith, within, parts.1)) parts.1

pub missing_more : (sent : List Sent) (one : Sent) (outputs : List ℕ)
    → (let none : Option ℕ = None in position (λ o. o == one.message) outputs ≡ none)
    → map (messages_of sent) outputs ≡ map (messages_of (sent ++ one ∷ [])) outputs
missing_more sent one outputs missing =
    let place = place_of one.message outputs in
    let past = none_or_some (nat_lt place (length outputs)) place missing in
    none_more sent one outputs (nowhere one outputs (ltb-false place (length outputs) past))
