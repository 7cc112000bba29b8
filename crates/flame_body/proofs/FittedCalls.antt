-- A call without faults fits, with numbers in place of names.
use Rattle.std.proofs.Common.{◌≡◌, ℕ, ◌+◌, ◌≤◌, List, [], ◌∷◌, ◌++◌, map, Option, Some, None, Bool, true, false, refl}
use Rattle.std.proofs.Common.{sym, ap, ◌∙◌, arith}
use Rattle.std.specs.Prelude.{◌==◌, ◌&&◌, not, length, slice_get, slice_index_or, option_map, is_some, nat_lt, nat_le}
use Rattle.std.specs.Prelude.{codes}
use Rattle.std.specs.Str.{bytes_eq}
use Rattle.std.proofs.lemmas.Bool.Decides.{Decides-eqb}
use Rattle.std.proofs.lemmas.Option.{slice_get-map, slice_get_within, get_or_from_slice_get}
use Rattle.std.proofs.lemmas.Bool.{lt-ltb, and_from, not-false}
use Rattle.flame_rows.proofs.Lists.{append-is_nil_left, append-is_nil_right}
use Rattle.flame_rows.proofs.Truths.{is_some-false, nat_le-true}
use Rattle.flame_spec.specs.declared.models.AgentType.{AgentType}
use Rattle.flame_spec.specs.declared.models.MessageType.{MessageType}
use Rattle.flame_spec.specs.declared.models.Variable.{Variable}
use Rattle.flame_spec.specs.CallFaults.{Deed, sets, sends, bears, calls, set_or_else, sent_or_else, born_or_called}
use Rattle.flame_spec.specs.CallFaults.{added_in, called_by}
use Rattle.flame_spec.specs.CallFaults.{count, is_length, length_found, length_given, length_of_argument, whole_faults}
use Rattle.flame_spec.specs.CallFaults.{wanted, places_of}
use Rattle.flame_spec.specs.CallFaults.{sets_array, sends_no_output, argument_faults, arguments_faults, deed_faults}
use Rattle.flame_spec.specs.CallFaults.{call_faults}
use Rattle.flame_spec.specs.Columns.{width, width_by, width_of}
use Rattle.flame_spec.specs.Definitions.{Definition, helper_named}
use Rattle.flame_spec.specs.ExpressionFaults.{member_read, fault_where, expression_faults, parts_faults}
use Rattle.flame_spec.specs.Functions.{Place}
use Rattle.flame_spec.specs.LookUps.{Given, in_memory, constant, iteration, memory_set, message_sent, agent_born}
use Rattle.flame_spec.specs.Scopes.{Context, Sight, names_seen, memory_at, given_at, is_local}
use Rattle.flame_spec.specs.Trees.{Expression, name, field}
use Rattle.flame_spec.specs.Trees.{Expressions, no_parts, part}
use Rattle.flame_spec.proofs.FaultTests.{fault_where-none, is_length-true}
use Rattle.flame_body.specs.declared.slots.SlotExpr.{SlotExpr}
use Rattle.flame_body.specs.WordSlots.{local_number, slot_given, slot_or_given, slot_at, field_span, span_found}
use Rattle.flame_body.specs.WordSlots.{input_read, deed_slot, deed_at}
use Rattle.flame_body.specs.NumberedTrees.{numbered, numbered_parts}
use Rattle.flame_body.specs.FunctionBodies.{widths_in}
use Rattle.flame_body.specs.FitLaws.{Suits, unfiled}
use Rattle.flame_body.specs.BodyFits.{Around, Fit, unfit, one_value, whole_array, is_value, fit, fit_of_slot}
use Rattle.flame_body.specs.BodyFits.{fit_of_bare, is_field, numbers_in, together}
use Rattle.flame_body.specs.BodyFits.{numbers_of, row_fits, deed_fits, values_fit}
use Rattle.flame_body.proofs.Columned.{never, column-there, numbered-at}
use Rattle.flame_body.proofs.FitForms.{fit-Name, fit-Field}
use Rattle.flame_body.proofs.FittedWords.{memory-width, given-within, local-seen}
use Rattle.flame_body.proofs.FittedExpressions.{RowFound, row-found, field-stands, expression-fits, parts-fit}

-- ---- how many numbers an argument stands for

-- one value is one number
pub value-number : (f : Fit) → is_value f ≡ true → numbers_in f ≡ Some 1
value-number unfit h = absurd (cc)
value-number one_value h = refl
value-number (whole_array length) h = absurd (cc)

-- an array that fits stands for as many numbers as it is long
bare-numbers :
    (b : Bool) (length : Option ℕ) (n : ℕ)
    → b ≡ true
    → length ≡ Some n
    → numbers_in (fit_of_bare b length) ≡ Some n
bare-numbers b length n h g =
    ap (λ t. numbers_in (fit_of_bare t length)) h ∙ ap (λ o. numbers_in (fit_of_bare true o)) g

-- an array of the memory, where it stands without an index
array-given :
    (context : Context) (around : Around) (word : List ℕ) (found : Option Given) (n : ℕ)
    → around.widths ≡ widths_in context.model context.runs
    → given_at context word ≡ found
    → length_given found ≡ Some n
    → numbers_in (fit_of_slot around.widths (slot_given found)) ≡ Some n
array-given context around word None n w is long = absurd (cc)
array-given context around word (Some (in_memory c v)) n w is long =
    let within : c + width_of v ≤ width (memory_at context) = given-within context word c v is in
    let wide : around.widths.memory ≡ width (memory_at context) =
    ap (λ x. x.memory) w ∙ memory-width context.model context.runs in
    bare-numbers (nat_le (c + width_by v.length) around.widths.memory) v.length n (nat_le-true _ _ (omega arith)) long
array-given context around word (Some (constant k)) n w is long = absurd (cc)
array-given context around word (Some iteration) n w is long = absurd (cc)

-- an array that is named without an index
array-named :
    (context : Context) (sight : Sight) (around : Around) (word : List ℕ) (n : ℕ)
    → Suits context sight around
    → length_given (given_at context word) ≡ Some n
    → numbers_in (fit_of_slot around.widths (slot_at context sight word)) ≡ Some n
array-named context sight around word n suits long = by_slot (local_number (names_seen sight) word) refl
  where
    by_slot :
        (local : Option ℕ)
        → local_number (names_seen sight) word ≡ local
        → numbers_in (fit_of_slot around.widths (slot_or_given local (given_at context word))) ≡ Some n
    by_slot (Some k) is =
        let seen : is_local sight word ≡ true = local-seen sight word ∙ ap is_some is in
        let none : length_given (given_at context word) ≡ None = ap length_given (suits.fresh word seen) in
        absurd (cc)
    by_slot None is = array-given context around word (given_at context word) n suits.widths refl long

-- an array of a message's row
array-read :
    (context : Context) (sight : Sight) (around : Around) (word variable : List ℕ) (found : Option (ℕ × Variable))
    (n : ℕ)
    → Suits context sight around
    → RowFound context sight word variable
    → member_read context word variable ≡ found
    → length_found found ≡ Some n
    → numbers_in (fit_of_bare (is_field around (input_read context word) (span_found found)) (span_found found).length)
    ≡ Some n
array-read context sight around word variable None n suits row is long = absurd (cc)
array-read context sight around word variable (Some (c, v)) n suits row is long =
    let stands = field-stands context sight around word variable c v suits row is in
    bare-numbers _ v.length n (and_from _ _ stands.inside (nat_le-true _ _ stands.within)) long

-- an argument that is an array of this length
array-numbers :
    (context : Context) (sight : Sight) (around : Around) (e : Expression) (n : ℕ)
    → Suits context sight around
    → whole_faults context sight e ≡ []
    → is_length n (length_of_argument context e) ≡ true
    → numbers_in (fit around (numbered (unfiled context) sight e)) ≡ Some n
array-numbers context sight around (name line word) n suits none long =
    ap numbers_in (fit-Name around (slot_at context sight word))
    ∙ array-named context sight around word n suits (is_length-true n (length_given (given_at context word)) long)
array-numbers context sight around (field line word variable) n suits none long =
    ap numbers_in (fit-Field around (input_read context word) (field_span context word variable))
    ∙ array-read context sight around word variable (member_read context word variable) n suits
    (row-found context sight line word variable none) refl
    (is_length-true n (length_found (member_read context word variable)) long)
array-numbers context sight around e n suits none long = never long

-- an argument stands for as many numbers as its variable is wide
argument-numbers :
    (context : Context) (sight : Sight) (around : Around) (line : ℕ) (word : List ℕ) (length : Option ℕ)
    (e : Expression)
    → Suits context sight around
    → argument_faults context sight line word length e ≡ []
    → numbers_in (fit around (numbered (unfiled context) sight e)) ≡ Some (width_by length)
argument-numbers context sight around line word None e suits none =
    value-number (fit around (numbered (unfiled context) sight e)) (expression-fits context sight around e suits none)
argument-numbers context sight around line word (Some n) e suits none =
    let front = whole_faults context sight e in
    let test = is_length n (length_of_argument context e) in
    let behind = fault_where (not test) context _ line word in
    array-numbers context sight around e n suits
    (append-is_nil_left front behind none)
    (not-false test (fault_where-none (not test) context _ line word (append-is_nil_right front behind none)))

-- as many numbers as the row of the variables is wide
arguments-numbers :
    (context : Context) (sight : Sight) (around : Around) (line : ℕ) (word : List ℕ) (variables : List Variable)
    (arguments : Expressions)
    → Suits context sight around
    → arguments_faults context sight line word variables arguments ≡ []
    → count arguments ≡ length variables
    → numbers_of (map (fit around) (numbered_parts (unfiled context) sight arguments)) ≡ Some (width variables)
arguments-numbers context sight around line word [] no_parts suits none counted = refl
arguments-numbers context sight around line word (v ∷ vs) no_parts suits none counted = absurd (omega arith)
arguments-numbers context sight around line word [] (part e parts) suits none counted = absurd (omega arith)
arguments-numbers context sight around line word (v ∷ vs) (part e parts) suits none counted =
    let front = argument_faults context sight line word v.length e in
    let behind = arguments_faults context sight line word vs parts in
    let rest = numbers_of (map (fit around) (numbered_parts (unfiled context) sight parts)) in
    let more : count parts ≡ length vs = omega arith in
    ap (λ o. together o rest)
    (argument-numbers context sight around line word v.length e suits (append-is_nil_left front behind none))
    ∙ ap (together (Some (width_of v)))
    (arguments-numbers context sight around line word vs parts suits (append-is_nil_right front behind none) more)

-- ---- rows

-- arguments fit a row that is as wide
row-of-width :
    (around : Around) (rows : List ℕ) (k w : ℕ) (arguments : List SlotExpr)
    → slice_get rows k ≡ Some w
    → numbers_of (map (fit around) arguments) ≡ Some w
    → row_fits around rows k arguments ≡ true
row-of-width around rows k w arguments there numbers =
    and_from (nat_lt k (length rows)) (is_length (slice_index_or rows k 0) (numbers_of (map (fit around) arguments)))
    (lt-ltb _ _ (slice_get_within rows k w there))
    (ap (is_length (slice_index_or rows k 0)) numbers
    ∙ (Decides-eqb w (slice_index_or rows k 0)).1 (sym (get_or_from_slice_get rows k w 0 there)))

-- what a list gives at a number, each member read by f
pub row-at :
    {X : Type 0} (f : X → ℕ) (xs : List X) (k : ℕ) (x : X)
    → slice_get xs k ≡ Some x
    → slice_get (map f xs) k ≡ Some (f x)
row-at f xs k x h = slice_get-map f xs k ∙ ap (option_map f) h

-- ---- single values

-- numbers in place of names keep how many arguments there are
pub numbered-count :
    (context : Context) (sight : Sight) (arguments : Expressions)
    → length (numbered_parts context sight arguments) ≡ count arguments
numbered-count context sight no_parts = refl
numbered-count context sight (part e parts) = let more = numbered-count context sight parts in omega arith

-- arguments beyond the variables are values
pub plain-arguments :
    (context : Context) (sight : Sight) (line : ℕ) (word : List ℕ) (arguments : Expressions)
    → arguments_faults context sight line word [] arguments ≡ parts_faults context sight arguments
plain-arguments context sight line word no_parts = refl
plain-arguments context sight line word (part e parts) = refl

-- so is the argument of a single variable
single-argument :
    (context : Context) (sight : Sight) (line : ℕ) (word : List ℕ) (v : Variable) (arguments : Expressions)
    → v.length ≡ None
    → arguments_faults context sight line word (v ∷ []) arguments ≡ parts_faults context sight arguments
single-argument context sight line word v no_parts single = refl
single-argument context sight line word v (part e parts) single =
    ap (λ l. argument_faults context sight line word l e ++ arguments_faults context sight line word [] parts) single
    ∙ ap (λ faults. expression_faults context sight e ++ faults) (plain-arguments context sight line word parts)

-- ---- what a call does

-- a call without faults has as many arguments as it wants, and they are without faults
pub record DeedClean (context : Context) (sight : Sight) (deed : Deed) (line : ℕ) (word : List ℕ)
    (arguments : Expressions)
    : Type 0 where
  pub single : sets_array deed ≡ false
  pub counted : count arguments ≡ wanted deed
  pub clean : arguments_faults context sight line word (places_of deed) arguments ≡ []

-- what a call without faults has
pub deed-clean :
    (context : Context) (sight : Sight) (deed : Deed) (line : ℕ) (word : List ℕ) (arguments : Expressions)
    → deed_faults context sight (Some deed) line word arguments ≡ []
    → DeedClean context sight deed line word arguments
deed-clean context sight deed line word arguments none =
    let whole = fault_where (sets_array deed) context _ line word in
    let counts = fault_where (not (count arguments == wanted deed)) context _ line word in
    let outputs = fault_where (sends_no_output context deed) context _ line word in
    let inner = arguments_faults context sight line word (places_of deed) arguments in
    let front = append-is_nil_left (whole ++ counts) outputs (append-is_nil_left (whole ++ counts ++ outputs) inner none) in
    record {
      single = fault_where-none (sets_array deed) context _ line word (append-is_nil_left whole counts front);
      counted = (Decides-eqb (count arguments) (wanted deed)).0
          (not-false (count arguments == wanted deed)
          (fault_where-none (not (count arguments == wanted deed)) context _ line word (append-is_nil_right whole counts front)));
      clean = append-is_nil_right (whole ++ counts ++ outputs) inner none;
    }

-- a call that sets a variable
sets-fit :
    (context : Context) (sight : Sight) (around : Around) (c : ℕ) (v : Variable) (line : ℕ) (word : List ℕ)
    (arguments : Expressions)
    → Suits context sight around
    → memory_set (memory_at context) word ≡ Some (c, v)
    → deed_faults context sight (Some (sets c v)) line word arguments ≡ []
    → deed_fits around (deed_slot line (Some (sets c v))) (numbered_parts (unfiled context) sight arguments) ≡ true
sets-fit context sight around c v line word arguments suits is none =
    let clean = deed-clean context sight (sets c v) line word arguments none in
    let single : v.length ≡ None = is_some-false v.length clean.single in
    let one : width_of v ≡ 1 = ap width_by single in
    let within : c + width_of v ≤ width (memory_at context) =
    column-there (λ variable. bytes_eq (codes "set_" ++ variable.name) word) (memory_at context) c v is in
    let wide : around.widths.memory ≡ width (memory_at context) =
    ap (λ x. x.memory) suits.widths ∙ memory-width context.model context.runs in
    and_from (nat_lt c around.widths.memory && (length (numbered_parts (unfiled context) sight arguments) == 1))
    (values_fit around (numbered_parts (unfiled context) sight arguments))
    (and_from (nat_lt c around.widths.memory) (length (numbered_parts (unfiled context) sight arguments) == 1)
    (lt-ltb _ _ (omega arith))
    ((Decides-eqb (length (numbered_parts (unfiled context) sight arguments)) 1).1
    (numbered-count (unfiled context) sight arguments ∙ clean.counted)))
    (parts-fit context sight around arguments suits
    (sym (single-argument context sight line word v arguments single) ∙ clean.clean))

-- a call that sends a message
sends-fit :
    (context : Context) (sight : Sight) (around : Around) (place : Place) (k : ℕ) (m : MessageType) (line : ℕ)
    (word : List ℕ) (arguments : Expressions)
    → Suits context sight around
    → context.runs ≡ Some place
    → message_sent context.model.messages word ≡ Some (k, m)
    → deed_faults context sight (Some (sends k m)) line word arguments ≡ []
    → deed_fits around (deed_slot line (Some (sends k m))) (numbered_parts (unfiled context) sight arguments) ≡ true
sends-fit context sight around place k m line word arguments suits runs is none =
    let clean = deed-clean context sight (sends k m) line word arguments none in
    let at = numbered-at (λ message. bytes_eq (codes "add_" ++ (message.name ++ codes "_message")) word) 0
    context.model.messages k m is in
    let number : at.place ≡ k = omega (arith, at.number) in
    let rows : map (λ (message : MessageType). width message.variables) context.model.messages
    ≡ around.widths.messages =
    sym (ap (λ w. w.messages) suits.widths ∙ ap (λ r. (widths_in context.model r).messages) runs) in
    row-of-width around around.widths.messages k (width m.variables) (numbered_parts (unfiled context) sight arguments)
    (ap (λ list. slice_get list k) (sym rows)
    ∙ row-at (λ (message : MessageType). width message.variables) context.model.messages k m
    (ap (slice_get context.model.messages) (sym number) ∙ at.there))
    (arguments-numbers context sight around line word m.variables arguments suits clean.clean clean.counted)

-- a call that bears an agent
bears-fit :
    (context : Context) (sight : Sight) (around : Around) (place : Place) (k : ℕ) (type : AgentType) (line : ℕ)
    (word : List ℕ) (arguments : Expressions)
    → Suits context sight around
    → context.runs ≡ Some place
    → agent_born context.model.agents word ≡ Some (k, type)
    → deed_faults context sight (Some (bears k type)) line word arguments ≡ []
    → deed_fits around (deed_slot line (Some (bears k type))) (numbered_parts (unfiled context) sight arguments) ≡ true
bears-fit context sight around place k type line word arguments suits runs is none =
    let clean = deed-clean context sight (bears k type) line word arguments none in
    let at = numbered-at (λ other. bytes_eq (codes "add_" ++ (other.name ++ codes "_agent")) word) 0
    context.model.agents k type is in
    let number : at.place ≡ k = omega (arith, at.number) in
    let rows : map (λ (other : AgentType). width other.memory) context.model.agents ≡ around.widths.agents =
    sym (ap (λ w. w.agents) suits.widths ∙ ap (λ r. (widths_in context.model r).agents) runs) in
    row-of-width around around.widths.agents k (width type.memory) (numbered_parts (unfiled context) sight arguments)
    (ap (λ list. slice_get list k) (sym rows)
    ∙ row-at (λ (other : AgentType). width other.memory) context.model.agents k type
    (ap (slice_get context.model.agents) (sym number) ∙ at.there))
    (arguments-numbers context sight around line word type.memory arguments suits clean.clean clean.counted)

-- the arguments of a helper are single values
pub helper-values :
    (context : Context) (sight : Sight) (around : Around) (found : Option (ℕ × Definition)) (line : ℕ) (word : List ℕ)
    (arguments : Expressions)
    → Suits context sight around
    → deed_faults context sight (called_by found) line word arguments ≡ []
    → values_fit around (numbered_parts (unfiled context) sight arguments) ≡ true
helper-values context sight around None line word arguments suits none = absurd (cc)
helper-values context sight around (Some h) line word arguments suits none =
    let clean = deed-clean context sight (calls h.0 h.1) line word arguments none in
    parts-fit context sight around arguments suits
    (sym (plain-arguments context sight line word arguments) ∙ clean.clean)

-- a call statement of a helper
calls-values :
    (context : Context) (sight : Sight) (around : Around) (found : Option (ℕ × Definition)) (line : ℕ) (word : List ℕ)
    (arguments : Expressions)
    → Suits context sight around
    → deed_faults context sight (called_by found) line word arguments ≡ []
    → deed_fits around (deed_slot line (called_by found)) (numbered_parts (unfiled context) sight arguments) ≡ true
calls-values context sight around None line word arguments suits none = absurd (cc)
calls-values context sight around (Some h) line word arguments suits none =
    helper-values context sight around (Some h) line word arguments suits none

-- ---- calls

-- a call statement
pub call-fits :
    (context : Context) (sight : Sight) (around : Around) (line : ℕ) (word : List ℕ) (arguments : Expressions)
    → Suits context sight around
    → call_faults context sight line word arguments ≡ []
    → deed_fits around (deed_at (unfiled context) line word) (numbered_parts (unfiled context) sight arguments) ≡ true
call-fits context sight around line word arguments suits none =
    by_set (memory_set (memory_at context) word) refl none
  where
    Clean : Option Deed → Type 0
    Clean deed = deed_faults context sight deed line word arguments ≡ []

    Fitted : Option Deed → Type 0
    Fitted deed = deed_fits around (deed_slot line deed) (numbered_parts (unfiled context) sight arguments) ≡ true

    by_runs_born :
        (runs : Option Place) (type : ℕ × AgentType)
        → context.runs ≡ runs
        → agent_born context.model.agents word ≡ Some type
        → Clean (added_in runs (bears type.0 type.1))
        → Fitted (added_in runs (bears type.0 type.1))
    by_runs_born None type runs is none = absurd (cc)
    by_runs_born (Some place) type runs is none =
        bears-fit context sight around place type.0 type.1 line word arguments suits runs is none

    by_runs_sent :
        (runs : Option Place) (m : ℕ × MessageType)
        → context.runs ≡ runs
        → message_sent context.model.messages word ≡ Some m
        → Clean (added_in runs (sends m.0 m.1))
        → Fitted (added_in runs (sends m.0 m.1))
    by_runs_sent None m runs is none = absurd (cc)
    by_runs_sent (Some place) m runs is none =
        sends-fit context sight around place m.0 m.1 line word arguments suits runs is none

    by_born :
        (found : Option (ℕ × AgentType))
        → agent_born context.model.agents word ≡ found
        → Clean (born_or_called context found word)
        → Fitted (born_or_called (unfiled context) found word)
    by_born (Some type) is none = by_runs_born context.runs type refl is none
    by_born None is none =
        calls-values context sight around (helper_named context.helpers word) line word arguments suits none

    by_sent :
        (found : Option (ℕ × MessageType))
        → message_sent context.model.messages word ≡ found
        → Clean (sent_or_else context found word)
        → Fitted (sent_or_else (unfiled context) found word)
    by_sent (Some m) is none = by_runs_sent context.runs m refl is none
    by_sent None is none = by_born (agent_born context.model.agents word) refl none

    by_set :
        (found : Option (ℕ × Variable))
        → memory_set (memory_at context) word ≡ found
        → Clean (set_or_else context found word)
        → Fitted (set_or_else (unfiled context) found word)
    by_set (Some v) is none = sets-fit context sight around v.0 v.1 line word arguments suits is none
    by_set None is none = by_sent (message_sent context.model.messages word) refl none
