-- What a numbered body has before it inside a loop over a message.
use Rattle.std.proofs.Common.{◌≡◌, ℕ, Bool, true, false, cond, ◌||◌, List, ◌∷◌, Option, Some, None, refl, sym, ap, ◌∙◌, arith, true≢false}
use Rattle.std.specs.Prelude.{ℤ, ◌==◌, is_some, slice_get}
use Rattle.std.specs.List.{list_any}
use Rattle.std.specs.Str.{bytes_eq}
use Rattle.std.proofs.lemmas.Bool.{eq-eqb, ne_eqb}
use Rattle.flame_rows.proofs.Bytes.{bytes_eq-true, bytes_eq-same}
use Rattle.flame_rows.proofs.Truths.{is_some-true}
use Rattle.flame_spec.specs.declared.models.Input.{Input}
use Rattle.flame_spec.specs.declared.models.MessageType.{MessageType}
use Rattle.flame_spec.specs.Functions.{Place}
use Rattle.flame_spec.specs.Lists.{numbered_where}
use Rattle.flame_spec.specs.Scopes.{Context, Loop, over_message, messages_at, is_over, input_in}
use Rattle.flame_body.specs.WordSlots.{number_found}
use Rattle.flame_body.proofs.Columned.{numbered-at}
use Rattle.flame_meaning.specs.Scenes.{Scene, row_over}
use Rattle.flame_meaning.specs.Statements.{inside}
use Rattle.flame_meaning.specs.Outcomes.{message_named}
use Rattle.flame_number_laws.specs.NumberedScenes.{NumberedScene, standing_at}
use Rattle.flame_number_laws.proofs.SameWords.{Matches}

-- messages that are first of their names and have the same number have the same name
one-name :
    (messages : List MessageType) (number : ℕ) (m n : MessageType)
    → message_named messages m.name ≡ Some (number, m)
    → message_named messages n.name ≡ Some (number, n)
    → m.name ≡ n.name
one-name messages number m n first second =
    let here = numbered-at (λ (message : MessageType). bytes_eq message.name m.name) 0 messages number m first in
    let there = numbered-at (λ (message : MessageType). bytes_eq message.name n.name) 0 messages number n second in
    let place : here.place ≡ there.place = omega (arith, here.number, there.number) in
    let same : ◌≡◌ {A = Option MessageType} (Some m) (Some n)
    = sym here.there ∙ ap (slice_get messages) place ∙ there.there in
    let equal : m ≡ n = cc in ap (λ (message : MessageType). message.name) equal

-- inputs of messages with different names have different numbers
one-input :
    (runs : Option Place) (m n : MessageType) (i j : ℕ × Input)
    → input_in runs m ≡ Some i
    → input_in runs n ≡ Some j
    → i.0 ≡ j.0
    → m.name ≡ n.name
one-input None m n i j first second same = absurd (cc)
one-input (Some p) m n i j first second same =
    let here = numbered-at (λ (input : Input). bytes_eq input.message m.name) 0 p.function.inputs i.0 i.1 first in
    let there = numbered-at (λ (input : Input). bytes_eq input.message n.name) 0 p.function.inputs j.0 j.1 second in
    let place : here.place ≡ there.place = omega (arith, here.number, there.number, same) in
    let input : ◌≡◌ {A = Option Input} (Some i.1) (Some j.1)
    = sym here.there ∙ ap (slice_get p.function.inputs) place ∙ there.there in
    let equal : i.1 ≡ j.1 = cc in
    let message : i.1.message ≡ j.1.message = ap (λ (x : Input). x.message) equal in
    sym (bytes_eq-true i.1.message m.name here.passes_it) ∙ message ∙ bytes_eq-true j.1.message n.name there.passes_it

-- inside a loop over the message, which is over this input and stands at this row
pub matches-inside :
    (place : Context) (loops : List Loop) (scene : Scene) (before : NumberedScene) (number : ℕ) (message : MessageType)
    (input : ℕ × Input) (row : List ℤ)
    → Matches place loops scene before
    → message_named (messages_at place) message.name ≡ Some (number, message)
    → input_in place.runs message ≡ Some input
    → Matches place (over_message message.name ∷ loops) (inside (record { message = number; row = row }) scene)
    (standing_at input.0 row before)
matches-inside place loops scene before number message input row k first is = record {
  widths = k.widths;
  constants = k.constants;
  same_iteration = k.same_iteration;
  readings = k.readings;
  inputs = λ other opens. has_input other (bytes_eq message.name other.name) refl opens;
  current_rows = λ n other named opens. row_there n other named (bytes_eq message.name other.name) refl opens;
  answers = k.answers;
}
  where
    -- a message of this name is read by this input
    same-input : (other : MessageType) → message.name ≡ other.name → input_in place.runs other ≡ input_in place.runs message
    same-input other same = by_runs place.runs
      where
        by_runs : (runs : Option Place) → input_in runs other ≡ input_in runs message
        by_runs None = refl
        by_runs (Some p) = ap (λ name. numbered_where (λ (x : Input). bytes_eq x.message name) p.function.inputs) (sym same)

    has_input :
        (other : MessageType) (b : Bool)
        → bytes_eq message.name other.name ≡ b
        → (b || list_any (is_over other) loops) ≡ true
        → is_some (input_in place.runs other) ≡ true
    has_input other true e opens = ap is_some (same-input other (bytes_eq-true message.name other.name e) ∙ is)
    has_input other false e opens = k.inputs other opens

    row_there :
        (n : ℕ) (other : MessageType)
        → message_named (messages_at place) other.name ≡ Some (n, other)
        → (b : Bool)
        → bytes_eq message.name other.name ≡ b
        → (b || list_any (is_over other) loops) ≡ true
        → (standing_at input.0 row before).current_rows (number_found (input_in place.runs other))
        ≡ row_over n (record { message = number; row = row } ∷ scene.open_loops)
    row_there n other named true e opens =
        let same : message.name ≡ other.name = bytes_eq-true message.name other.name e in
        let found : ◌≡◌ {A = Option (ℕ × MessageType)} (Some (number, message)) (Some (n, other))
        = sym first ∙ ap (message_named (messages_at place)) same ∙ named in
        let pair : ◌≡◌ {A = ℕ × MessageType} (number, message) (n, other) = cc in
        let numbered : number ≡ n = ap (λ q. q.0) pair in
        ap (λ i. cond (i == input.0) row (before.current_rows i)) (ap number_found (same-input other same ∙ is))
        ∙ ap (λ b. cond b row (before.current_rows input.0)) (eq-eqb input.0 input.0 refl)
        ∙ sym (ap (λ b. cond b row (row_over n scene.open_loops)) (eq-eqb number n numbered))
    row_there n other named false e opens =
        let mine = is_some-true (input_in place.runs other) (k.inputs other opens) in
        let apart : (message.name ≡ other.name) → ⊥ = λ same. true≢false (sym (bytes_eq-same message.name other.name same) ∙ e) in
        let input-apart : ((number_found (input_in place.runs other)) == input.0) ≡ false
        = ne_eqb (number_found (input_in place.runs other)) input.0
        (λ same. apart (sym (one-input place.runs other message mine.0 input mine.1 is (sym (ap number_found mine.1) ∙ same)))) in
        let number-apart : (number == n) ≡ false
        = ne_eqb number n
        (λ same. apart (one-name (messages_at place) n message other
        (first ∙ ap (λ i. Some (i, message)) same) named)) in
        ap (λ b. cond b row (before.current_rows (number_found (input_in place.runs other)))) input-apart
        ∙ k.current_rows n other named opens
        ∙ sym (ap (λ b. cond b row (row_over n scene.open_loops)) number-apart)
