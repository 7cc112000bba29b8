-- The parts of a piece, as they are handed in.
use Rattle.std.proofs.Common.{◌≡◌, ℕ, zero, suc, ◌+◌, ◌<◌, ◌≤◌, Bool, true, false, cond, List, [], ◌∷◌, map, Option, Some, None, refl, sym, ap, ◌∙◌, arith, one-add, ⊎_elim, length, get_or}
use Rattle.std.specs.Prelude.{ℤ, slice_set, slice_index_or, option_map, ◌==◌, not, ◌&&◌, is_none, is_some, nat_lt}
use Rattle.std.specs.List.{find, list_all, position, position_or_len}
use Rattle.std.proofs.lemmas.Bool.{eq-eqb, ne_eqb, cases_eq, ltb-true, ltb-false}
use Rattle.std.proofs.lemmas.List.{length-map}
use Rattle.std.proofs.lemmas.List.Sums.{sum_by-cons}
use Rattle.std.proofs.lemmas.Option.{cond_some}
use Rattle.flame_rows.specs.Bags.{ascending, merge}
use Rattle.flame_rows.proofs.BagLaws.{length-ascending}
use Rattle.flame_rows.proofs.Lists.{slice_index_or-map}
use Rattle.flame_rows.proofs.Merging.{merge-ascending}
use Rattle.flame_spec.specs.Below.{times, HasNoTwice}
use Rattle.flame_spec.proofs.NoTwice.{later-once}
use Rattle.flame_events.specs.CoreStates.{part_in}
use Rattle.flame_field.specs.KeptGatherings.{bag_of}
use Rattle.flame_field.specs.declared.gatherings.Gathering.{Gathering}
use Rattle.flame_pieces.specs.declared.works.Output.{Output}
use Rattle.flame_pieces.specs.KeptWorks.{part_of, messages_in}

abbrev one : Bool → ℕ
one here = cond here 1 0

-- ---- outputs are handed in

-- the place of a message among others
pub place-cons : (message output : ℕ) (outputs : List ℕ)
    → position_or_len (λ o. o == message) (output ∷ outputs) ≡ cond (output == message) 0 (suc (position_or_len (λ o. o == message) outputs))
place-cons message output outputs =
    elim (output == message) as (λ t. cond (not t) (1 + position_or_len (λ o. o == message) outputs) 0 ≡ cond t 0 (suc (position_or_len (λ o. o == message) outputs))) [
      | true ↦ refl
      | false ↦ one-add (position_or_len (λ o. o == message) outputs)
    ]

pub part_in-cons : (message output : ℕ) (outputs : List ℕ) (part : Option (List (List ℤ))) (parts : List (Option (List (List ℤ))))
    → part_in (output ∷ outputs) (part ∷ parts) message ≡ cond (output == message) part (part_in outputs parts message)
part_in-cons message output outputs part parts =
    ap (λ k. slice_index_or (part ∷ parts) k None) (place-cons message output outputs)
    ∙ elim (output == message) as (λ t. slice_index_or (part ∷ parts) (cond t 0 (suc (position_or_len (λ o. o == message) outputs))) None ≡ cond t part (part_in outputs parts message)) [
      | true ↦ refl
      | false ↦ refl
    ]

-- what stands at the head does not stand in the rest, where nothing stands twice
pub apart_head : (output : ℕ) (outputs : List ℕ) → HasNoTwice (output ∷ outputs) → (message : ℕ) → 1 ≤ times message outputs → output ≡ message → ⊥
apart_head output outputs once message there same =
    let counted = sum_by-cons (λ o. cond (o == message) 1 0) output outputs in
    let here = ap one (eq-eqb output message same) in
    absurd (omega (arith, counted, here, there, once message))

pub stands : (output : ℕ) (outputs : List ℕ) → 1 ≤ times output (output ∷ outputs)
stands output outputs =
    let counted = sum_by-cons (λ o. cond (o == output) 1 0) output outputs in
    let here = ap one (eq-eqb output output refl) in
    omega (arith, counted, here)

pub stands_behind : (message output : ℕ) (outputs : List ℕ) → 1 ≤ times message outputs → 1 ≤ times message (output ∷ outputs)
stands_behind message output outputs there =
    let counted = sum_by-cons (λ o. cond (o == message) 1 0) output outputs in
    omega (arith, counted, there)

-- ---- everything is handed in

agree : (f g : ℕ → Bool) (messages : List ℕ) → ((message : ℕ) → 1 ≤ times message messages → f message ≡ g message) → list_all f messages ≡ list_all g messages
agree f g [] same = refl
agree f g (message ∷ messages) same =
    let here = same message (stands message messages) in
    let rest = agree f g messages (λ other there. same other (stands_behind other message messages there)) in
    λ i. here i && rest i

none_kept : (output : Output) → output.handed ≡ is_none (part_of output)
none_kept output =
    elim output.handed as (λ b. b ≡ is_none (cond b None (Some (bag_of output.rows)))) [
      | true ↦ refl
      | false ↦ refl
    ]

pub some_kept : (output : Output) → not output.handed ≡ is_some (part_of output)
some_kept output =
    elim output.handed as (λ b. not b ≡ is_some (cond b None (Some (bag_of output.rows)))) [
      | true ↦ refl
      | false ↦ refl
    ]

pub all_handed : (outputs : List Output) → HasNoTwice (messages_in outputs)
    → list_all (λ output. output.handed) outputs
    ≡ list_all (λ message. is_none (part_in (messages_in outputs) (map part_of outputs) message)) (messages_in outputs)
all_handed [] once = refl
all_handed (output ∷ outputs) once =
    let parts = map part_of outputs in
    let messages = messages_in outputs in
    let here : output.handed ≡ is_none (part_in (output.message ∷ messages) (part_of output ∷ parts) output.message) =
    none_kept output
    ∙ ap is_none (sym (part_in-cons output.message output.message messages (part_of output) parts
    ∙ ap (λ t. cond t (part_of output) (part_in messages parts output.message)) (eq-eqb output.message output.message refl))) in
    let same = agree
    (λ message. is_none (part_in (output.message ∷ messages) (part_of output ∷ parts) message))
    (λ message. is_none (part_in messages parts message)) messages
    (λ message there. ap is_none (part_in-cons message output.message messages (part_of output) parts
    ∙ ap (λ t. cond t (part_of output) (part_in messages parts message)) (ne_eqb output.message message (apart_head output.message messages once message there)))) in
    let rest = all_handed outputs (later-once output.message messages once) ∙ sym same in
    λ i. here i && rest i

-- ---- the place of an output

abbrev pub place_in : ℕ → List Output → ℕ
place_in message outputs = position_or_len (λ o. o == message) (messages_in outputs)

abbrev pub test : ℕ → Output → Bool
test message output = output.message == message

place_is : (message : ℕ) (outputs : List Output) → position_or_len (test message) outputs ≡ place_in message outputs
place_is message [] = refl
place_is message (output ∷ outputs) =
    ap (λ n. cond (not (output.message == message)) (1 + n) 0) (place_is message outputs)

pub none_or_some : (b : Bool) (k : ℕ) → (let none : Option ℕ = None in cond b (Some k) None ≡ none) → b ≡ false
none_or_some true k is = absurd cc
none_or_some false k is = refl

pub place_found : (message : ℕ) (outputs : List Output) (i : ℕ) → position (test message) outputs ≡ Some i
    → (i < length outputs) × (place_in message outputs ≡ i)
place_found message outputs i found =
    let parts = cond_some (nat_lt (position_or_len (test message) outputs) (length outputs)) (position_or_len (test message) outputs) i found in
    let within = ltb-true (position_or_len (test message) outputs) (length outputs) parts.0 in
    (omega (arith, within, parts.1), sym (place_is message outputs) ∙ parts.1)

pub place_missing : (message : ℕ) (outputs : List Output) → (let none : Option ℕ = None in position (test message) outputs ≡ none)
    → length outputs ≤ place_in message outputs
place_missing message outputs missing =
    let past = none_or_some (nat_lt (position_or_len (test message) outputs) (length outputs)) (position_or_len (test message) outputs) missing in
    omega (arith, ltb-false (position_or_len (test message) outputs) (length outputs) past, place_is message outputs)

-- ---- what stands there

pub found_there : (message : ℕ) (outputs : List Output) (i : ℕ) (output : Output) → i < length outputs → place_in message outputs ≡ i
    → output ≡ get_or outputs i output → find (test message) outputs ≡ Some output
found_there message [] i output within place at = absurd (omega (arith, within))
found_there message (first ∷ outputs) i output within place at =
    ⊎_elim
    (λ (same : first.message ≡ message).
    let here : place_in message (first ∷ outputs) ≡ zero = place-cons message first.message (messages_in outputs)
    ∙ ap (λ t. cond t zero (suc (place_in message outputs))) (eq-eqb first.message message same) in
    let none : i ≡ zero = sym place ∙ here in
    ap (λ t. cond t (Some first) (find (test message) outputs)) (eq-eqb first.message message same)
    ∙ ap Some (sym (at ∙ ap (λ n. get_or (first ∷ outputs) n output) none)))
    (λ (apart : first.message ≡ message → ⊥).
    let here : place_in message (first ∷ outputs) ≡ suc (place_in message outputs) = place-cons message first.message (messages_in outputs)
    ∙ ap (λ t. cond t zero (suc (place_in message outputs))) (ne_eqb first.message message apart) in
    let more : i ≡ suc (place_in message outputs) = sym place ∙ here in
    ap (λ t. cond t (Some first) (find (test message) outputs)) (ne_eqb first.message message apart)
    ∙ found_there message outputs (place_in message outputs) output (omega (arith, within, more)) refl
    (at ∙ ap (λ n. get_or (first ∷ outputs) n output) more))
    (cases_eq first.message message)

pub found_nowhere : (message : ℕ) (outputs : List Output) → length outputs ≤ place_in message outputs
    → (let none : Option Output = None in find (test message) outputs ≡ none)
found_nowhere message [] past = refl
found_nowhere message (first ∷ outputs) past =
    ⊎_elim
    (λ (same : first.message ≡ message).
    let here : place_in message (first ∷ outputs) ≡ zero = place-cons message first.message (messages_in outputs)
    ∙ ap (λ t. cond t zero (suc (place_in message outputs))) (eq-eqb first.message message same) in
    absurd (omega (arith, past, here)))
    (λ (apart : first.message ≡ message → ⊥).
    let here : place_in message (first ∷ outputs) ≡ suc (place_in message outputs) = place-cons message first.message (messages_in outputs)
    ∙ ap (λ t. cond t zero (suc (place_in message outputs))) (ne_eqb first.message message apart) in
    ap (λ t. cond t (Some first) (find (test message) outputs)) (ne_eqb first.message message apart)
    ∙ found_nowhere message outputs (omega (arith, past, here)))
    (cases_eq first.message message)

pub past_end : {X : Type 0} (xs : List X) (k : ℕ) (d : X) → length xs ≤ k → slice_index_or xs k d ≡ d
past_end [] k d past = refl
past_end (x ∷ xs) zero d past = absurd (omega (arith, past))
past_end (x ∷ xs) (suc k) d past = past_end xs k d (omega (arith, past))

pub set_past : {X : Type 0} (xs : List X) (k : ℕ) (x : X) → length xs ≤ k → slice_set xs k x ≡ xs
set_past [] k x past = refl
set_past (y ∷ xs) zero x past = absurd (omega (arith, past))
set_past (y ∷ xs) (suc k) x past = ap (λ l. y ∷ l) (set_past xs k x (omega (arith, past)))

pub part_there : (message : ℕ) (outputs : List Output) (i : ℕ) (output : Output) → i < length outputs → place_in message outputs ≡ i
    → output ≡ get_or outputs i output → part_in (messages_in outputs) (map part_of outputs) message ≡ part_of output
part_there message outputs i output within place at =
    ap (λ k. slice_index_or (map part_of outputs) k None) place ∙ slice_index_or-map part_of None outputs i output within at

pub part_nowhere : (message : ℕ) (outputs : List Output) → length outputs ≤ place_in message outputs
    → part_in (messages_in outputs) (map part_of outputs) message ≡ None
part_nowhere message outputs past =
    past_end (map part_of outputs) (place_in message outputs) None (omega (arith, past, length-map outputs part_of))

pub put_part : (output : Output) (after : Gathering) (rows : List (List ℤ)) → bag_of after ≡ merge (bag_of output.rows) (ascending rows)
    → cond output.handed None (Some (bag_of after)) ≡ option_map (λ own. merge own rows) (part_of output)
put_part output after rows is =
    elim output.handed as (λ b. cond b None (Some (bag_of after)) ≡ option_map (λ own. merge own rows) (cond b None (Some (bag_of output.rows)))) [
      | true ↦ refl
      | false ↦ ap Some (is ∙ merge-ascending (bag_of output.rows) rows)
    ]

-- what was kept for an output that is not handed in
pub part_kept : (output : Output) (rows : List (List ℤ)) → part_of output ≡ Some rows → bag_of output.rows ≡ rows
part_kept output rows is = kept output.handed is
  where
    kept : (b : Bool) → cond b None (Some (bag_of output.rows)) ≡ Some rows → bag_of output.rows ≡ rows
    kept true is = absurd cc
    kept false is = cc

-- ---- as many as before

pub same_count : (rows more : List (List ℤ)) → ascending rows ≡ ascending more → length rows ≡ length more
same_count rows more same = sym (length-ascending rows) ∙ ap (length {A = List ℤ}) same ∙ length-ascending more
