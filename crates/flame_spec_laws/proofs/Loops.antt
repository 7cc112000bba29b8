-- What loops and fields without faults are; the loops that are open stay open inside.
use Rattle.std.proofs.Common.{◌≡◌, ◌≢◌, ℕ, true, false, not, List, [], ◌++◌, codes, Contains, Option, Some, None, true≢false}
use Rattle.std.proofs.Common.{refl, ap, sym, ◌∙◌, subst}
use Rattle.std.specs.Prelude.{is_some}
use Rattle.std.specs.Str.{bytes_eq}
use Rattle.std.proofs.lemmas.Bool.{not-false}
use Rattle.flame_rows.proofs.Bytes.{bytes_eq-true}
use Rattle.flame_rows.proofs.Lists.{append-is_nil_left, append-is_nil_right}
use Rattle.flame_rows.proofs.Truths.{is_some-false, is_some-true}
use Rattle.flame_ops.specs.Ascii.{capitals}
use Rattle.flame_spec.specs.declared.models.Variable.{Variable}
use Rattle.flame_spec.specs.declared.models.MessageType.{MessageType}
use Rattle.flame_spec.specs.declared.models.Input.{Input}
use Rattle.flame_spec.specs.declared.faults.CheckKind.TheVariants.{NotInput, NestedSame, LoopMismatch, OutsideLoop}
use Rattle.flame_spec.specs.declared.faults.CheckKind.TheVariants.{NotArray, NeedsIndex, WrongLength}
use Rattle.flame_spec.specs.Columns.{variable_named, is_array}
use Rattle.flame_spec.specs.Functions.{Place}
use Rattle.flame_spec.specs.LookUps.{message_read, message_looped, input_of}
use Rattle.flame_spec.specs.Trees.{Expression, number, name, field, get, field_at, signed, chain, all_of, any_of}
use Rattle.flame_spec.specs.Trees.{at as element}
use Rattle.flame_spec.specs.Trees.{loop_over, Statements}
use Rattle.flame_spec.specs.Scopes.{Context, Loop, over_message, over_none, Sight, messages_at, in_scope, in_loop}
use Rattle.flame_spec.specs.Scopes.{is_open_over}
use Rattle.flame_spec.specs.ExpressionFaults.{is_found_array, member_faults, row_faults_of, row_faults, member_of}
use Rattle.flame_spec.specs.ExpressionFaults.{member_read, field_faults, field_at_faults}
use Rattle.flame_spec.specs.CallFaults.{length_found, length_of_argument, is_length, whole_faults, argument_faults}
use Rattle.flame_spec.specs.StatementFaults.{is_input, opened, start_faults, finish_faults, statement_faults}
use Rattle.flame_spec.specs.StatementFaults.{statements_faults}
use Rattle.flame_spec.proofs.FaultTests.{fault_where-none, is_length-true}
use Rattle.flame_spec.proofs.OpenLoops.{loops-after, loops-after_all}
use Rattle.flame_spec_laws.specs.BodyParts.{Part, doing, sequence, StandsIn, itself, element_index, field_index, under_signs}
use Rattle.flame_spec_laws.specs.BodyParts.{chain_begin, chain_more, all_part, any_part, first_value, later_value}
use Rattle.flame_spec_laws.specs.BodyParts.{first_operand}
use Rattle.flame_spec_laws.specs.BodyParts.{later_operand, single_argument, array_argument, later_argument, plain_argument}
use Rattle.flame_spec_laws.specs.BodyParts.{plain_value}
use Rattle.flame_spec_laws.specs.BodyParts.{called_argument, assigned_index, assigned_value, item_value, later_item}
use Rattle.flame_spec_laws.specs.BodyParts.{declaration}
use Rattle.flame_spec_laws.specs.BodyParts.{assignment, call_argument, block_body, branch_arm, branch_otherwise, while_test}
use Rattle.flame_spec_laws.specs.BodyParts.{while_body}
use Rattle.flame_spec_laws.specs.BodyParts.{for_first, for_test, for_step, for_body, do_body, do_test, loop_body, returned}
use Rattle.flame_spec_laws.specs.BodyParts.{first_statement, later_statement, arm_test, arm_body, later_arm, later_parameter}
use Rattle.flame_spec_laws.specs.BodyParts.{function_body}
use Rattle.flame_spec_laws.specs.CheckLaws.{IsLoop, IsField, IsArray, of_memory, of_row}
use Rattle.flame_spec_laws.proofs.Found.{Contains-head, Contains-later}
use Rattle.flame_spec_laws.proofs.NoFaults.{no_faults}
use Rattle.flame_spec_laws.proofs.LookedUp.{numbered-found, columned-found}
use Rattle.flame_spec_laws.proofs.Sights.{readable, open_over, over_open}

-- ---- fields

-- the variable of a row that is read
record Row (at : Context) (sight : Sight) (word variable : List ℕ) : Type 0 where
  found : ℕ × Variable
  is : IsField at sight word variable found.1
  read : member_read at word variable ≡ Some found

row_read :
    (at : Context) (sight : Sight) (line : ℕ) (word variable : List ℕ)
    → row_faults at sight line word variable ≡ []
    → Row at sight word variable
row_read at sight line word variable none = by_message (message_read (messages_at at) word) refl none
  where
    by_message :
        (o : Option (ℕ × MessageType))
        → message_read (messages_at at) word ≡ o
        → row_faults_of at sight o line word variable ≡ []
        → Row at sight word variable
    by_message None e clear = cc
    by_message (Some message) e clear =
        by_variable (variable_named message.1.variables variable) refl (append-is_nil_right _ _ clear)
      where
        named : Contains (messages_at at) message.1 × (bytes_eq (message.1.name ++ codes "_message") word ≡ true)
        named = numbered-found (λ m. bytes_eq (m.name ++ codes "_message") word) 0 (messages_at at) message e

        by_variable :
            (v : Option (ℕ × Variable))
            → variable_named message.1.variables variable ≡ v
            → member_faults at v line variable ≡ []
            → Row at sight word variable
        by_variable None f clear' = cc
        by_variable (Some found) f clear' =
            let (c, same) = columned-found (λ v. bytes_eq v.name variable) 0 message.1.variables found f in
            record {
              found = found;
              is = record {
                message = message.1;
                known = named.0;
                named = sym (bytes_eq-true (message.1.name ++ codes "_message") word named.1);
                has = c;
                is = sym (bytes_eq-true found.1.name variable same);
                within = open_over sight message.1
                    (not-false _ (fault_where-none _ at OutsideLoop line word (append-is_nil_left _ _ clear)));
              };
              read = ap (λ o. member_of o variable) e ∙ f;
            }

pub field_read :
    (at : Context) (sight : Sight) (line : ℕ) (word variable : List ℕ)
    → field_faults at sight line word variable ≡ []
    → (read : Variable) × IsField at sight word variable read × (read.length ≡ None)
field_read at sight line word variable none =
    let row : Row at sight word variable = row_read at sight line word variable (append-is_nil_left _ _ none) in
    let single : is_found_array (member_read at word variable) ≡ false
    = fault_where-none _ at NeedsIndex line variable (append-is_nil_right _ _ none) in
    (row.found.1, row.is, is_some-false row.found.1.length (sym (ap is_found_array row.read) ∙ single))

pub field_at_read :
    (at : Context) (sight : Sight) (line : ℕ) (word variable : List ℕ)
    → field_at_faults at sight line word variable ≡ []
    → (read : Variable) × IsField at sight word variable read × (read.length ≢ None)
field_at_read at sight line word variable none =
    let row : Row at sight word variable = row_read at sight line word variable (append-is_nil_left _ _ none) in
    let array : is_found_array (member_read at word variable) ≡ true
    = not-false _ (fault_where-none _ at NotArray line variable (append-is_nil_right _ _ none)) in
    let some : is_array row.found.1 ≡ true = sym (ap is_found_array row.read) ∙ array in
    (row.found.1, row.is, λ e. true≢false (sym some ∙ ap is_some e))

no_length : (size : ℕ) → is_length size None ≡ true → ⊥
no_length size e = true≢false (sym e)

-- an argument for an array is one of its length
pub whole_array :
    (at : Context) (sight : Sight) (line : ℕ) (word : List ℕ) (size : ℕ) (e : Expression)
    → argument_faults at sight line word (Some size) e ≡ []
    → IsArray at sight size e
whole_array at sight line word size e none =
    by_form e (append-is_nil_left (whole_faults at sight e) _ none)
    (not-false _ (fault_where-none (not (is_length size (length_of_argument at e))) at WrongLength line word
    (append-is_nil_right (whole_faults at sight e) _ none)))
  where
    by_form :
        (e : Expression)
        → whole_faults at sight e ≡ []
        → is_length size (length_of_argument at e) ≡ true
        → IsArray at sight size e
    by_form (name l w) clear long = of_memory l w refl (readable at sight l w clear) (is_length-true size _ long)
    by_form (field l w x) clear long =
        let row : Row at sight w x = row_read at sight l w x clear in
        of_row l w x row.found.1 refl row.is
        (sym (ap length_found row.read) ∙ is_length-true size (length_found (member_read at w x)) long)
    by_form (number n) clear long = absurd (no_length size long)
    by_form (get l w) clear long = absurd (no_length size long)
    by_form (element l w il i) clear long = absurd (no_length size long)
    by_form (field_at l w x il i) clear long = absurd (no_length size long)
    by_form (signed signs e) clear long = absurd (no_length size long)
    by_form (chain e more) clear long = absurd (no_length size long)
    by_form (all_of parts) clear long = absurd (no_length size long)
    by_form (any_of parts) clear long = absurd (no_length size long)

-- ---- loops

-- the function of the place reads the message
record Reads (at : Context) (message : MessageType) : Type 0 where
  place : Place
  runs : at.runs ≡ Some place
  input : (input : Input) × Contains place.function.inputs input × (input.message ≡ message.name)

reads : (at : Context) (message : MessageType) → is_input at.runs message ≡ true → Reads at message
reads at message e = by_runs at.runs refl e
  where
    by_runs : (o : Option Place) → at.runs ≡ o → is_input o message ≡ true → Reads at message
    by_runs None is e' = cc
    by_runs (Some place) is e' =
        let (found, f) = is_some-true (input_of place.function message) e' in
        let (c, same)
        = numbered-found (λ input. bytes_eq input.message message.name) 0 place.function.inputs found f in
        record {
          place = place;
          runs = is;
          input = (found.1, c, bytes_eq-true found.1.message message.name same);
        }

pub loop_found :
    (at : Context) (sight : Sight) (line : ℕ) (word : List ℕ) (body : Statements) (end_line : ℕ) (end_word : List ℕ)
    → statement_faults at sight (loop_over line word body end_line end_word) ≡ []
    → (found : ℕ × MessageType)
    × (message_looped (messages_at at) word ≡ Some found)
    × IsLoop at sight word end_word found.1
loop_found at sight line word body end_line end_word none =
    by_message (message_looped (messages_at at) word) refl (append-is_nil_left _ _ (append-is_nil_left _ _ none))
  where
    by_message :
        (o : Option (ℕ × MessageType))
        → message_looped (messages_at at) word ≡ o
        → start_faults at sight o line word ≡ []
        → (found : ℕ × MessageType)
        × (message_looped (messages_at at) word ≡ Some found)
        × IsLoop at sight word end_word found.1
    by_message None e clear = cc
    by_message (Some found) e clear =
        let (c, same) = numbered-found (λ m. bytes_eq (capitals m.name) word) 0 (messages_at at) found e in
        let shut : is_open_over sight found.1 ≡ false
        = fault_where-none _ at NestedSame line word (append-is_nil_right _ _ clear) in
        let read : Reads at found.1
        = reads at found.1 (not-false _ (fault_where-none _ at NotInput line word (append-is_nil_left _ _ clear))) in (
          found,
          e,
          record {
            known = c;
            named = sym (bytes_eq-true (capitals found.1.name) word same);
            place = read.place;
            runs = read.runs;
            input = read.input;
            first = λ open_there. true≢false (sym (over_open sight found.1 open_there) ∙ shut);
            ended = sym (bytes_eq-true word end_word
                (not-false _ (fault_where-none _ at LoopMismatch end_line end_word (append-is_nil_right _ _ none))));
          },
        )

-- ---- loops that are open

kept : (loop : Loop) (xs ys : List Loop) → ys ≡ xs → Contains xs loop → Contains ys loop
kept loop xs ys e c = subst (λ zs. Contains zs loop) (sym e) c

module _ (at : Context) (inner : Part) (there : Sight) (loop : Loop) where
  pub stays_open :
      {outer : Part} {here : Sight}
      → StandsIn at inner there outer here
      → Contains here.loops loop
      → Contains there.loops loop
  stays_open itself c = c
  stays_open (element_index line word index_line index s) c = stays_open s c
  stays_open (field_index line word variable index_line index s) c = stays_open s c
  stays_open (under_signs signs e s) c = stays_open s c
  stays_open (chain_begin e more s) c = stays_open s c
  stays_open (chain_more e more s) c = stays_open s c
  stays_open (all_part parts s) c = stays_open s c
  stays_open (any_part parts s) c = stays_open s c
  stays_open (first_value e more s) c = stays_open s c
  stays_open (later_value e more s) c = stays_open s c
  stays_open (first_operand op line e more s) c = stays_open s c
  stays_open (later_operand op line e more s) c = stays_open s c
  stays_open (single_argument line word variable variables e more is s) c = stays_open s c
  stays_open (array_argument line word variable variables e more length is s) c = stays_open s c
  stays_open (later_argument line word variable variables e more s) c = stays_open s c
  stays_open (plain_argument line word arguments s) c = stays_open s c
  stays_open (plain_value e s) c = stays_open s c
  stays_open (called_argument line word arguments s) c = stays_open s c
  stays_open (assigned_index a subscript is s) c = stays_open s c
  stays_open (assigned_value a s) c = stays_open s c
  stays_open (item_value item items stored is s) c = stays_open s c
  stays_open (later_item item items s) c = stays_open s c
  stays_open (declaration items s) c = stays_open s c
  stays_open (assignment a s) c = stays_open s c
  stays_open (call_argument line word arguments deed is s) c = stays_open s c
  stays_open (block_body body s) c = stays_open s c
  stays_open (branch_arm arms otherwise s) c = stays_open s c
  stays_open (branch_otherwise arms otherwise s) c = stays_open s c
  stays_open (while_test line test body s) c = stays_open s c
  stays_open {here = here} (while_body line test body s) c = stays_open s (Contains-later over_none here.loops loop c)
  stays_open (for_first line first test step body s) c = stays_open s c
  stays_open {here = here} (for_test line first test step body s) c =
      stays_open s (kept loop here.loops _ (loops-after_all (in_scope here) first) c)
  stays_open {here = here} (for_step line first test step body s) c =
      stays_open s (kept loop here.loops _ (loops-after_all (in_scope here) first) c)
  stays_open {here = here} (for_body line first test step body s) c =
      stays_open s (Contains-later over_none _ loop (kept loop here.loops _ (loops-after_all (in_scope here) first) c))
  stays_open {here = here} (do_body line body test s) c = stays_open s (Contains-later over_none here.loops loop c)
  stays_open (do_test line body test s) c = stays_open s c
  stays_open {here = here} (loop_body line word body end_line end_word s) c =
      stays_open s (Contains-later (opened (message_looped (messages_at at) word)) here.loops loop c)
  stays_open (returned e s) c = stays_open s c
  stays_open (first_statement statement more s) c = stays_open s c
  stays_open {here = here} (later_statement statement more s) c =
      stays_open s (kept loop here.loops _ (loops-after here statement) c)
  stays_open (arm_test test body more s) c = stays_open s c
  stays_open (arm_body test body more s) c = stays_open s c
  stays_open (later_arm test body more s) c = stays_open s c
  stays_open (later_parameter parameter parameters body s) c = stays_open s c
  stays_open (function_body body s) c = stays_open s c

body-none :
    (at : Context) (sight : Sight) (line : ℕ) (word : List ℕ) (body : Statements) (end_line : ℕ) (end_word : List ℕ)
    → statement_faults at sight (loop_over line word body end_line end_word) ≡ []
    → statements_faults at (in_loop (opened (message_looped (messages_at at) word)) sight) body ≡ []
body-none at sight line word body end_line end_word none =
    append-is_nil_right (start_faults at sight (message_looped (messages_at at) word) line word) _
    (append-is_nil_left _ (finish_faults at word end_line end_word) none)

-- no loop without faults stands in the body of one over the same message
pub not_nested :
    (at : Context) (sight there : Sight)
    → (line : ℕ) (word : List ℕ) (body : Statements) (end_line : ℕ) (end_word : List ℕ)
    → (inner_line : ℕ) (inner_word : List ℕ) (inner_body : Statements) (inner_end : ℕ) (inner_end_word : List ℕ)
    → statement_faults at sight (loop_over line word body end_line end_word) ≡ []
    → StandsIn at (doing (loop_over inner_line inner_word inner_body inner_end inner_end_word)) there
    (sequence body) (in_loop (opened (message_looped (messages_at at) word)) sight)
    → inner_word ≢ word
not_nested at sight there line word body end_line end_word
    inner_line inner_word inner_body inner_end inner_end_word none stands same =
    let inner : Part = doing (loop_over inner_line inner_word inner_body inner_end inner_end_word) in
    let here : Sight = in_loop (opened (message_looped (messages_at at) word)) sight in
    let clear : statement_faults at there (loop_over inner_line inner_word inner_body inner_end inner_end_word) ≡ []
    = no_faults at inner there stands (body-none at sight line word body end_line end_word none) in
    let (message, found, outer_loop) = loop_found at sight line word body end_line end_word none in
    let (other, other_found, inner_loop)
    = loop_found at there inner_line inner_word inner_body inner_end inner_end_word clear in
    let one : Some message ≡ Some other = sym found ∙ (ap (message_looped (messages_at at)) (sym same) ∙ other_found) in
    let equal : message ≡ other = cc in
    let head : Contains here.loops (over_message message.1.name)
    = subst (λ o. Contains (in_loop (opened o) sight).loops (over_message message.1.name)) (sym found)
    (Contains-head (over_message message.1.name) sight.loops) in
    inner_loop.first
    (subst (λ m. Contains there.loops (over_message m.1.name)) equal
    (stays_open at inner there (over_message message.1.name) stands head))
