-- What functions of an accepted source send is of their outputs.
use Rattle.std.proofs.Common.{◌≡◌, ℕ, zero, suc, ◌+◌, ◌<◌, ⊎_elim, Bool, true, false, cond, List, [], ◌∷◌, length, map, Option, Some, None, refl, sym, ap, ◌∙◌, arith}
use Rattle.std.specs.Prelude.{◌==◌, ◌||◌, slice_get, slice_index_or, option_map}
use Rattle.std.specs.List.{filter, filter_map, cons_option}
use Rattle.std.specs.Str.{bytes_eq}
use Rattle.std.proofs.lemmas.Bool.{cases_order, eqb-true, true≢false, false≢true}
use Rattle.std.proofs.lemmas.Option.{slice_get_within}
use Rattle.flame_rows.proofs.Bytes.{bytes_eq-true, bytes_eq-same}
use Rattle.flame_rows.proofs.Lists.{slice_get-some}
use Rattle.flame_spec.specs.declared.models.Model.{Model}
use Rattle.flame_spec.specs.declared.models.MessageType.{MessageType}
use Rattle.flame_spec.specs.declared.outcomes.Sent.{Sent}
use Rattle.flame_spec.specs.declared.outcomes.Outcome.{Outcome}
use Rattle.flame_spec.specs.declared.outcomes.Outcome.TheVariants.{Ended, Faulted}
use Rattle.flame_spec.specs.Accepted.{IsAccepted}
use Rattle.flame_spec.specs.Below.{is_in}
use Rattle.flame_spec.specs.Functions.{Place, functions}
use Rattle.flame_spec.specs.KnownNames.{is_among, message_names}
use Rattle.flame_spec.specs.Lists.{numbered_from}
use Rattle.flame_meaning.specs.Outcomes.{message_named, readings_of, outputs_at}
use Rattle.flame_meaning.specs.OutputLaws.{AreOfOutputs, SentAre}
use Rattle.flame_meaning.proofs.Sending.{messages_are_of_outputs}
use Rattle.flame_spec_laws.specs.DistinctNames.{AreDistinct}
use Rattle.flame_spec_laws.specs.NameLaws.{MessagesDiffer}
use Rattle.flame_world.specs.AgentRuns.{sent_by, messages_of}
use Rattle.flame_world.specs.Fields.{Field}
use Rattle.flame_world.specs.Iterations.{Round, outcome_in}
use Rattle.flame_events.proofs.Spots.{named}
use Rattle.flame_events.proofs.Serial.{is_in-self, is_in-later, ideal, met, Sends}

-- ---- what has a name is found

found_by : {X : Type 0} (p : X → Bool) (i : ℕ) (xs : List X) (k : ℕ) (x : X) → slice_get xs k ≡ Some x → p x ≡ true
    → numbered_from p i xs ≡ None → ⊥
found_by p i [] k x at passes none = absurd cc
found_by {X} p i (y ∷ xs) k x at passes none =
    (elim (p y) as (λ t. p y ≡ t → cond t (Some (i, y)) (numbered_from p (i + 1) xs) ≡ None → ⊥) [
      | true ↦ λ here some. absurd cc
      | false ↦ λ fails later. next k at fails (λ j there. found_by p (i + 1) xs j x there passes later)
    ])
    refl none
  where
    next : (k : ℕ) → slice_get (y ∷ xs) k ≡ Some x → p y ≡ false → ((j : ℕ) → slice_get xs j ≡ Some x → ⊥) → ⊥
    next zero here fails later = let same : y ≡ x = cc in true≢false (sym passes ∙ sym (ap p same) ∙ fails)
    next (suc j) there fails later = later j there

name_at : (messages : List MessageType) (k : ℕ) (message : MessageType) → slice_get messages k ≡ Some message
    → slice_index_or (message_names messages) k [] ≡ message.name
name_at [] k message at = absurd cc
name_at (m ∷ messages) zero message at = let same : m ≡ message = cc in ap (λ (x : MessageType). x.name) same
name_at (m ∷ messages) (suc k) message at = name_at messages k message at

length-names : (messages : List MessageType) → length (message_names messages) ≡ length messages
length-names [] = refl
length-names (message ∷ messages) = ap suc (length-names messages)

-- of messages that differ, two of one name are one
one_number : (messages : List MessageType) (j k : ℕ) (one other : MessageType) → AreDistinct (message_names messages)
    → slice_get messages j ≡ Some one → slice_get messages k ≡ Some other → one.name ≡ other.name → j ≡ k
one_number messages j k one other differ at there same =
    let names : slice_index_or (message_names messages) j [] ≡ slice_index_or (message_names messages) k [] =
    name_at messages j one at ∙ same ∙ sym (name_at messages k other there) in
    ⊎_elim
    (λ (equal : j ≡ k). equal)
    (λ rest. ⊎_elim
    (λ (less : j < k). absurd (differ j k less (omega (arith, length-names messages, slice_get_within messages k other there)) names))
    (λ (more : k < j). absurd (differ k j more (omega (arith, length-names messages, slice_get_within messages j one at)) (sym names)))
    rest)
    (cases_order j k)

-- ---- an output has its number

is_in-got : {X : Type 0} (h : X → Option ℕ) (xs : List X) (k m : ℕ) (x : X) → slice_get xs k ≡ Some x → h x ≡ Some m → is_in m (filter_map h xs) ≡ true
is_in-got h [] k m x at is = absurd cc
is_in-got h (y ∷ xs) zero m x at is =
    let same : y ≡ x = cc in ap (λ o. is_in m (cons_option o (filter_map h xs))) (ap h same ∙ is) ∙ is_in-self m (filter_map h xs)
is_in-got {X} h (y ∷ xs) (suc k) m x at is = later (h y) (is_in-got h xs k m x at is)
  where
    later : (o : Option ℕ) → is_in m (filter_map h xs) ≡ true → is_in m (cons_option o (filter_map h xs)) ≡ true
    later None e = e
    later (Some n) e = is_in-later m n (filter_map h xs) e

among_at : (name : List ℕ) (names : List (List ℕ)) → is_among name names ≡ true → (k : ℕ) × (slice_get names k ≡ Some name)
among_at name [] among = absurd (false≢true among)
among_at name (other ∷ names) among =
    (elim (bytes_eq name other) as (λ t. bytes_eq name other ≡ t → (t || is_among name names) ≡ true → (k : ℕ) × (slice_get (other ∷ names) k ≡ Some name)) [
      | true ↦ λ same _. (0, ap Some (sym (bytes_eq-true name other same)))
      | false ↦ λ _ later. let found = among_at name names later in (suc found.0, found.1)
    ])
    refl among

output_number : (model : Model) (place : Place) (m : ℕ) (message : MessageType) → AreDistinct (message_names model.messages)
    → slice_get model.messages m ≡ Some message → is_among message.name place.function.outputs ≡ true
    → is_in m (outputs_at (Some place) model) ≡ true
output_number model place m message differ at among =
    let output = among_at message.name place.function.outputs among in
    is_in-got (λ name. option_map (λ (found : ℕ × MessageType). found.0) (message_named model.messages name)) place.function.outputs output.0 m message.name output.1
    (go (message_named model.messages message.name) refl)
  where
    go : (o : Option (ℕ × MessageType)) → message_named model.messages message.name ≡ o → option_map (λ (found : ℕ × MessageType). found.0) o ≡ Some m
    go None is = absurd (found_by (λ (other : MessageType). bytes_eq other.name message.name) 0 model.messages m message at
        (bytes_eq-same message.name message.name refl) is)
    go (Some found) is =
        let there = named model message.name found.0 (ap (option_map (λ (found : ℕ × MessageType). found.0)) is) in
        ap Some (one_number model.messages found.0 m there.message message differ there.there at there.name_is)

-- ---- what is sent

none_of : (model : Model) (place : Place) (m : ℕ) (sent : List Sent) → AreDistinct (message_names model.messages)
    → is_in m (outputs_at (Some place) model) ≡ false
    → AreOfOutputs model.messages place.function.outputs sent → messages_of sent m ≡ []
none_of model place m [] differ out all = refl
none_of model place m (s ∷ sent) differ out all =
    let rest = none_of model place m sent differ out all.1 in
    (elim (s.message == m) as (λ t. (s.message == m) ≡ t → map (λ (x : Sent). x.row) (cond t (s ∷ filter (λ (x : Sent). x.message == m) sent) (filter (λ (x : Sent). x.message == m) sent)) ≡ []) [
      | true ↦ λ same.
          absurd (false≢true (sym out ∙ output_number model place m all.0.0 differ
          (sym (ap (slice_get model.messages) (eqb-true s.message m same)) ∙ all.0.1) all.0.2))
      | false ↦ λ apart. rest
    ])
    refl

sent_none : (model : Model) (place : Place) (m : ℕ) (o : Outcome) → AreDistinct (message_names model.messages)
    → is_in m (outputs_at (Some place) model) ≡ false
    → SentAre (AreOfOutputs model.messages place.function.outputs) o → messages_of (sent_by o) m ≡ []
sent_none model place m (Ended effect) differ out all = none_of model place m effect.sent differ out all
sent_none model place m (Faulted fault) differ out all = refl

pub accepted_sends : MessagesDiffer → (round : Round) (field : Field) → IsAccepted round.source → Sends round (ideal round field)
accepted_sends messages_differ round field accepted f less memory m out =
    let model = round.source.model in
    let place = slice_get-some (functions model) f less in
    let boards = (met round field f).boards in
    sent_none model place.0 m (outcome_in round f (met round field f) memory) (messages_differ model accepted.named).0
    (sym (ap (λ o. is_in m (outputs_at o model)) place.1) ∙ out)
    (messages_are_of_outputs round.source f place.0 memory (readings_of round.source f memory boards) round.constants round.iteration round.fuel accepted.checked place.1)
