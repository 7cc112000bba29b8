-- The messages that are sent are of outputs of the function.
use Rattle.std.proofs.Common.{◌≡◌, ℕ, Bool, true, false, cond, List, [], ◌∷◌, ◌++◌, Option, Some}
use Rattle.std.proofs.Common.{None, refl, sym, ap, ◌∙◌, subst, arith, codes}
use Rattle.std.specs.Prelude.{ℤ, not, slice_get, ◌==◌}
use Rattle.std.specs.Str.{bytes_eq}
use Rattle.std.proofs.lemmas.Bool.{not-false}
use Rattle.flame_rows.proofs.Lists.{append-is_nil_left, append-is_nil_right}
use Rattle.flame_spec.specs.declared.models.AgentType.{AgentType}
use Rattle.flame_spec.specs.declared.models.MessageType.{MessageType}
use Rattle.flame_spec.specs.declared.models.Variable.{Variable}
use Rattle.flame_spec.specs.declared.outcomes.Sent.{Sent}
use Rattle.flame_spec.specs.declared.outcomes.Source.{Source}
use Rattle.flame_spec.specs.declared.faults.CheckKind.TheVariants.{WrongCount, NotOutput, NeedsIndex}
use Rattle.flame_spec.specs.CallFaults.{Deed, sets, sends, bears, calls, called_by, added_in, born_or_called}
use Rattle.flame_spec.specs.CallFaults.{sent_or_else, set_or_else, deed_of, deed_faults, count, wanted}
use Rattle.flame_spec.specs.CallFaults.{is_no_output}
use Rattle.flame_spec.specs.CheckFaults.{check_faults}
use Rattle.flame_spec.specs.Columns.{width}
use Rattle.flame_spec.specs.Definitions.{Definition, helper_named, body_of}
use Rattle.flame_spec.specs.ExpressionFaults.{fault_where}
use Rattle.flame_spec.specs.Functions.{Place}
use Rattle.flame_spec.specs.KnownNames.{is_among}
use Rattle.flame_spec.specs.Lists.{numbered_where}
use Rattle.flame_spec.specs.LookUps.{memory_set, message_sent, agent_born}
use Rattle.flame_spec.specs.Scopes.{Context, Sight, at_entry, memory_at}
use Rattle.flame_spec.specs.Trees.{Expressions}
use Rattle.flame_spec.proofs.FaultTests.{fault_where-none}
use Rattle.flame_spec.proofs.Numbered.{numbered_from-stands}
use Rattle.flame_meaning.specs.Scenes.{Progress}
use Rattle.flame_meaning.specs.Ends.{End, went_on, broke, continued, returned, faulted}
use Rattle.flame_meaning.specs.Expressions.{holds}
use Rattle.flame_meaning.specs.Statements.{fitted, done, meanings}
use Rattle.flame_meaning.specs.Kept.{Leaves}
use Rattle.flame_meaning.specs.Outcomes.{start, ended, finished, scene_of, outcome_at, place_of, outcome_over}
use Rattle.flame_meaning.specs.AcceptedMeaning.{place_in}
use Rattle.flame_meaning.specs.OutputLaws.{IsOfOutput, AreOfOutputs, SentAre}
use Rattle.flame_meaning.proofs.Checked.{function_checked}
use Rattle.flame_meaning.proofs.Running.{IsCarried, CallsCarry, given_carries, statements_carry}

-- ---- what is found by its number

pub found_get :
    {X : Type 0} (p : X → Bool) (xs : List X) (found : ℕ × X)
    → numbered_where p xs ≡ Some found
    → slice_get xs found.0 ≡ Some found.1
found_get p xs found e =
    let (k, at, get) = numbered_from-stands p 0 xs found e in
    let same : found.0 ≡ k = omega (arith, at) in
    ap (slice_get xs) same ∙ get

-- ---- one message more

one_more :
    (messages : List MessageType) (outputs : List (List ℕ)) (before : List Sent) (sent : Sent)
    → AreOfOutputs messages outputs before
    → IsOfOutput messages outputs sent
    → AreOfOutputs messages outputs (before ++ sent ∷ [])
one_more messages outputs [] sent are is = (is, tt)
one_more messages outputs (x ∷ before) sent are is = (are.0, one_more messages outputs before sent are.1 is)

-- what was sent before is of outputs, and then so is what was sent after
pub record Keeps (messages : List MessageType) (outputs : List (List ℕ)) (s t : Progress) : Type 0 where
  pub keeps : AreOfOutputs messages outputs s.sent → AreOfOutputs messages outputs t.sent

module _ (messages : List MessageType) (outputs : List (List ℕ)) where
  pub carried : IsCarried (Keeps messages outputs)
  carried = record {
    same = λ s. record { keeps = λ are. are };
    joined = λ s t u h g. record { keeps = λ are. g.keeps (h.keeps are) };
    locals = λ s locals. record { keeps = λ are. are };
    memory = λ s column v. record { keeps = λ are. are };
    fuel = λ s left. record { keeps = λ are. are };
  }

-- this message, of this number, was found
abbrev IsThis : ℕ → MessageType → Option (ℕ × MessageType) → Type 0
IsThis n message o = o ≡ Some (n, message)

-- a word that sends a message is that of its form
sends_found :
    (context : Context) (word : List ℕ) (n : ℕ) (message : MessageType)
    → deed_of context word ≡ Some (sends n message)
    → message_sent context.model.messages word ≡ Some (n, message)
sends_found context word n message e = by_set (memory_set (memory_at context) word) e
  where
    helps : (o : Option (ℕ × Definition)) → called_by o ≡ Some (sends n message) → IsThis n message None
    helps None f = cc
    helps (Some found) f = cc

    bearing : (runs : Option Place) (k : ℕ) (type : AgentType) → added_in runs (bears k type) ≡ Some (sends n message) → IsThis n message None
    bearing None k type f = cc
    bearing (Some p) k type f = cc

    by_born : (o : Option (ℕ × AgentType)) → born_or_called context o word ≡ Some (sends n message) → IsThis n message None
    by_born (Some found) f = bearing context.runs found.0 found.1 f
    by_born None f = helps (helper_named context.helpers word) f

    sending : (runs : Option Place) (found : ℕ × MessageType) → added_in runs (sends found.0 found.1) ≡ Some (sends n message) → Some found ≡ Some (n, message)
    sending None found f = cc
    sending (Some p) found f =
        let number : found.0 ≡ n = cc in
        let type : found.1 ≡ message = cc in
        λ i. Some (number i, type i)

    by_sent : (o : Option (ℕ × MessageType)) → sent_or_else context o word ≡ Some (sends n message) → o ≡ Some (n, message)
    by_sent (Some found) f = sending context.runs found f
    by_sent None f = by_born (agent_born context.model.agents word) f

    by_set :
        (o : Option (ℕ × Variable))
        → set_or_else context o word ≡ Some (sends n message)
        → message_sent context.model.messages word ≡ Some (n, message)
    by_set (Some found) f = cc
    by_set None f = by_sent (message_sent context.model.messages word) f

module _ (context : Context) (place : Place) (runs : context.runs ≡ Some place) where
  sent_output :
      (sight : Sight) (line : ℕ) (word : List ℕ) (arguments : Expressions) (n : ℕ) (message : MessageType)
      → deed_of context word ≡ Some (sends n message)
      → deed_faults context sight (Some (sends n message)) line word arguments ≡ []
      → (row : List ℤ)
      → IsOfOutput context.model.messages place.function.outputs (record { message = n; row = row })
  sent_output sight line word arguments n message is none row =
      let output : is_no_output context.runs message ≡ false
      = fault_where-none (is_no_output context.runs message) context NotOutput line word
      (append-is_nil_right (fault_where false context NeedsIndex line word ++ fault_where (not (count arguments == wanted (sends n message))) context WrongCount line word) _
      (append-is_nil_left _ _ none)) in (
        message,
        found_get (λ (m : MessageType). bytes_eq (codes "add_" ++ (m.name ++ codes "_message")) word) context.model.messages (n, message)
            (sends_found context word n message is),
        not-false (is_among message.name place.function.outputs) (sym (ap (λ o. is_no_output o message) runs) ∙ output),
      )

  calls_carry : CallsCarry context (Keeps context.model.messages place.function.outputs)
  calls_carry sight line word arguments scene s values there none =
      subst (λ o. Leaves (Keeps context.model.messages place.function.outputs) s (done o line values scene s))
      (sym (ap (λ (c : Context). deed_of c word) there))
      (by_deed (deed_of context word) refl none)
    where
      by_deed :
          (o : Option Deed)
          → deed_of context word ≡ o
          → deed_faults context sight o line word arguments ≡ []
          → Leaves (Keeps context.model.messages place.function.outputs) s (done o line values scene s)
      by_deed None e n = record { keeps = λ are. are }
      by_deed (Some (sets column variable)) e n = record { keeps = λ are. are }
      by_deed (Some (sends number message)) e n = record {
        keeps = λ are.
            one_more context.model.messages place.function.outputs s.sent
            (record { message = number; row = fitted (width message.variables) values }) are
            (sent_output sight line word arguments number message e n (fitted (width message.variables) values));
      }
      by_deed (Some (bears number type)) e n = record { keeps = λ are. are }
      by_deed (Some (calls number helper)) e n =
          given_carries (Keeps context.model.messages place.function.outputs)
          (carried context.model.messages place.function.outputs) s (scene.answers line helper values s.fuel) _ (λ v t h. h)

-- ---- outcomes

finished_sent :
    (messages : List MessageType) (outputs : List (List ℕ)) (memory : List ℤ) (fuel : ℕ) (e : End)
    → Leaves (Keeps messages outputs) (start memory fuel) e
    → SentAre (AreOfOutputs messages outputs) (finished e)
finished_sent messages outputs memory fuel (went_on s) h = h.keeps tt
finished_sent messages outputs memory fuel (broke s) h = h.keeps tt
finished_sent messages outputs memory fuel (continued s) h = h.keeps tt
finished_sent messages outputs memory fuel (returned v s) h = by_value (holds v)
  where
    by_value : (b : Bool) → SentAre (AreOfOutputs messages outputs) (cond b (ended None s) (ended (Some s.memory) s))
    by_value true = h.keeps tt
    by_value false = h.keeps tt
finished_sent messages outputs memory fuel (faulted fault) h = tt

pub messages_are_of_outputs :
    (source : Source) (function : ℕ) (place : Place) (memory : List ℤ) (readings : List (List (List ℤ)))
    (constants : List ℤ) (iteration : ℤ) (fuel : ℕ)
    → check_faults source.model source.units ≡ []
    → place_of source function ≡ Some place
    → SentAre
    (AreOfOutputs source.model.messages place.function.outputs)
    (outcome_over source function memory readings constants iteration fuel)
messages_are_of_outputs source function place memory readings constants iteration fuel none listed =
    let (number, checked) = function_checked source.model source.units none place function listed in
    let context : Context = place_in source.model source.units place number in
    subst (λ o. SentAre (AreOfOutputs source.model.messages place.function.outputs) (outcome_at o source memory readings constants iteration fuel))
    (sym listed)
    (finished_sent source.model.messages place.function.outputs memory fuel
    (meanings (body_of source.units place.function) (scene_of source place readings constants iteration) (start memory fuel))
    (statements_carry context (Keeps source.model.messages place.function.outputs)
    (carried source.model.messages place.function.outputs)
    (calls_carry context place refl)
    (body_of source.units place.function) at_entry (scene_of source place readings constants iteration) (start memory fuel)
    refl checked))
