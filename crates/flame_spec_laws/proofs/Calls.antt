-- What calls without faults are.
use Rattle.std.proofs.Common.{◌≡◌, ℕ, true, false, List, [], ◌++◌, codes, Contains, Option, Some, None, refl, ap}
use Rattle.std.proofs.Common.{sym, ◌∙◌, subst}
use Rattle.std.specs.Str.{bytes_eq}
use Rattle.std.proofs.lemmas.Bool.{not-false, eqb-true}
use Rattle.flame_rows.proofs.Bytes.{bytes_eq-true}
use Rattle.flame_rows.proofs.Lists.{append-is_nil_left, append-is_nil_right}
use Rattle.flame_rows.proofs.Truths.{is_some-false}
use Rattle.flame_spec.specs.declared.models.Variable.{Variable}
use Rattle.flame_spec.specs.declared.models.MessageType.{MessageType}
use Rattle.flame_spec.specs.declared.models.AgentType.{AgentType}
use Rattle.flame_spec.specs.declared.faults.CheckKind.TheVariants.{WrongCount, NotOutput, NeedsIndex}
use Rattle.flame_spec.specs.KnownNames.{is_among}
use Rattle.flame_spec.specs.Functions.{Place}
use Rattle.flame_spec.specs.Definitions.{Definition, helper_named}
use Rattle.flame_spec.specs.LookUps.{memory_got, memory_set, message_sent, agent_born}
use Rattle.flame_spec.specs.Trees.{Expressions}
use Rattle.flame_spec.specs.Scopes.{Context, Sight, memory_at}
use Rattle.flame_spec.specs.ExpressionFaults.{getter_faults, is_found_array, get_faults, fault_where}
use Rattle.flame_spec.specs.CallFaults.{Deed, sets, sends, bears, calls, called_by, added_in, born_or_called}
use Rattle.flame_spec.specs.CallFaults.{sent_or_else}
use Rattle.flame_spec.specs.CallFaults.{set_or_else, deed_of, wanted, count, sets_array, is_no_output, sends_no_output}
use Rattle.flame_spec.specs.CallFaults.{deed_faults}
use Rattle.flame_spec.proofs.FaultTests.{fault_where-none}
use Rattle.flame_spec_laws.specs.CheckLaws.{IsGetter, IsHelperCall, IsCall, stores_value, sends_output, bears_agent}
use Rattle.flame_spec_laws.specs.CheckLaws.{calls_helper}
use Rattle.flame_spec_laws.proofs.Found.{list_any-found}
use Rattle.flame_spec_laws.proofs.LookedUp.{numbered-found, columned-found}

among-Contains : (word : List ℕ) (names : List (List ℕ)) → is_among word names ≡ true → Contains names word
among-Contains word names e =
    let (name, c, same) = list_any-found (bytes_eq word) names e in
    subst (λ w. Contains names w) (sym (bytes_eq-true word name same)) c

pub getter : (at : Context) (line : ℕ) (word : List ℕ) → get_faults at line word ≡ [] → IsGetter at word
getter at line word none = by_variable (memory_got (memory_at at) word) refl (append-is_nil_left _ _ none) (append-is_nil_right _ _ none)
  where
    by_variable :
        (o : Option (ℕ × Variable))
        → memory_got (memory_at at) word ≡ o
        → getter_faults at o line word ≡ []
        → fault_where (is_found_array o) at NeedsIndex line word ≡ []
        → IsGetter at word
    by_variable None e found single = cc
    by_variable (Some got) e found single =
        let (c, same) = columned-found (λ v. bytes_eq (codes "get_" ++ v.name) word) 0 (memory_at at) got e in (
          got.1,
          c,
          sym (bytes_eq-true (codes "get_" ++ got.1.name) word same),
          is_some-false got.1.length (fault_where-none _ at NeedsIndex line word single),
        )

-- what a deed without faults is, but for its arguments
record IsClear (at : Context) (deed : Deed) (arguments : Expressions) : Type 0 where
  single : sets_array deed ≡ false
  counted : count arguments ≡ wanted deed
  output : sends_no_output at deed ≡ false

clear :
    (at : Context) (sight : Sight) (deed : Deed) (line : ℕ) (word : List ℕ) (arguments : Expressions)
    → deed_faults at sight (Some deed) line word arguments ≡ []
    → IsClear at deed arguments
clear at sight deed line word arguments none = record {
  single = fault_where-none _ at NeedsIndex line word (append-is_nil_left _ _ (append-is_nil_left _ _ (append-is_nil_left _ _ none)));
  counted = eqb-true _ _
      (not-false _ (fault_where-none _ at WrongCount line word (append-is_nil_right _ _ (append-is_nil_left _ _ (append-is_nil_left _ _ none)))));
  output = fault_where-none _ at NotOutput line word (append-is_nil_right _ _ (append-is_nil_left _ _ none));
}

pub helper_call :
    (at : Context) (sight : Sight) (line : ℕ) (word : List ℕ) (arguments : Expressions)
    → deed_faults at sight (called_by (helper_named at.helpers word)) line word arguments ≡ []
    → IsHelperCall at word arguments
helper_call at sight line word arguments none = by_helper (helper_named at.helpers word) refl none
  where
    by_helper :
        (o : Option (ℕ × Definition))
        → helper_named at.helpers word ≡ o
        → deed_faults at sight (called_by o) line word arguments ≡ []
        → IsHelperCall at word arguments
    by_helper None e faults = cc
    by_helper (Some found) e faults =
        let (c, same) = numbered-found (λ d. bytes_eq d.name word) 0 at.helpers found e in
        record {
          helper = found.1;
          known = c;
          named = sym (bytes_eq-true found.1.name word same);
          counted = (clear at sight (calls found.0 found.1) line word arguments faults).counted;
        }

module _ (at : Context) (sight : Sight) (line : ℕ) (word : List ℕ) (arguments : Expressions) where
  stored :
      (found : ℕ × Variable)
      → memory_set (memory_at at) word ≡ Some found
      → IsClear at (sets found.0 found.1) arguments
      → IsCall at word arguments
  stored found e is =
      let (c, same) = columned-found (λ v. bytes_eq (codes "set_" ++ v.name) word) 0 (memory_at at) found e in
      stores_value found.1 c (sym (bytes_eq-true (codes "set_" ++ found.1.name) word same))
      (is_some-false found.1.length is.single) is.counted

  sent :
      (found : ℕ × MessageType) (place : Place)
      → message_sent at.model.messages word ≡ Some found
      → at.runs ≡ Some place
      → IsClear at (sends found.0 found.1) arguments
      → IsCall at word arguments
  sent found place e runs is =
      let (c, same)
      = numbered-found
      (λ m. bytes_eq (codes "add_" ++ (m.name ++ codes "_message")) word) 0 at.model.messages found e in
      let output : is_no_output (Some place) found.1 ≡ false
      = sym (ap (λ o. is_no_output o found.1) runs) ∙ is.output in
      sends_output place found.1 runs c (sym (bytes_eq-true _ word same)) is.counted
      (among-Contains found.1.name place.function.outputs (not-false _ output))

  born :
      (found : ℕ × AgentType) (place : Place)
      → agent_born at.model.agents word ≡ Some found
      → at.runs ≡ Some place
      → IsClear at (bears found.0 found.1) arguments
      → IsCall at word arguments
  born found place e runs is =
      let (c, same)
      = numbered-found (λ t. bytes_eq (codes "add_" ++ (t.name ++ codes "_agent")) word) 0 at.model.agents found e in
      bears_agent place found.1 runs c (sym (bytes_eq-true _ word same)) is.counted

  by_born :
      (o : Option (ℕ × AgentType)) (runs : Option Place)
      → agent_born at.model.agents word ≡ o
      → at.runs ≡ runs
      → deed_faults at sight (born_or_called at o word) line word arguments ≡ []
      → IsCall at word arguments
  by_born None runs e is none = calls_helper (helper_call at sight line word arguments none)
  by_born (Some found) None e is none =
      let no : deed_faults at sight None line word arguments ≡ []
      = sym (ap (λ o. deed_faults at sight (added_in o (bears found.0 found.1)) line word arguments) is) ∙ none in
      cc
  by_born (Some found) (Some place) e is none =
      born found place e is
      (clear at sight (bears found.0 found.1) line word arguments
      (sym (ap (λ o. deed_faults at sight (added_in o (bears found.0 found.1)) line word arguments) is) ∙ none))

  by_sent :
      (o : Option (ℕ × MessageType)) (runs : Option Place)
      → message_sent at.model.messages word ≡ o
      → at.runs ≡ runs
      → deed_faults at sight (sent_or_else at o word) line word arguments ≡ []
      → IsCall at word arguments
  by_sent None runs e is none = by_born (agent_born at.model.agents word) runs refl is none
  by_sent (Some found) None e is none =
      let no : deed_faults at sight None line word arguments ≡ []
      = sym (ap (λ o. deed_faults at sight (added_in o (sends found.0 found.1)) line word arguments) is) ∙ none in
      cc
  by_sent (Some found) (Some place) e is none =
      sent found place e is
      (clear at sight (sends found.0 found.1) line word arguments
      (sym (ap (λ o. deed_faults at sight (added_in o (sends found.0 found.1)) line word arguments) is) ∙ none))

  by_set :
      (o : Option (ℕ × Variable))
      → memory_set (memory_at at) word ≡ o
      → deed_faults at sight (set_or_else at o word) line word arguments ≡ []
      → IsCall at word arguments
  by_set (Some found) e none =
      stored found e (clear at sight (sets found.0 found.1) line word arguments none)
  by_set None e none = by_sent (message_sent at.model.messages word) at.runs refl refl none

  pub is_call : deed_faults at sight (deed_of at word) line word arguments ≡ [] → IsCall at word arguments
  is_call none = by_set (memory_set (memory_at at) word) refl none
