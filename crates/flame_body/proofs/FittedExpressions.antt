-- An expression without faults fits, with numbers in place of names.
use Rattle.std.proofs.Common.{◌≡◌, ℕ, ◌+◌, ◌≤◌, List, [], ◌++◌, map, Option, Some, None, true, false, refl, sym, ap}
use Rattle.std.proofs.Common.{◌∙◌, arith}
use Rattle.std.specs.Prelude.{slice_index_or, is_some, nat_lt, not, codes}
use Rattle.std.specs.List.{list_all}
use Rattle.std.specs.Str.{bytes_eq}
use Rattle.std.proofs.lemmas.Slice.Eq.{bytes_eq-Decides}
use Rattle.std.proofs.lemmas.Bool.{lt-ltb, and_from, not-false}
use Rattle.flame_rows.proofs.Lists.{append-is_nil_left, append-is_nil_right}
use Rattle.flame_rows.proofs.Truths.{is_some-false, is_some-true, nat_le-true}
use Rattle.flame_spec.specs.declared.models.Input.{Input}
use Rattle.flame_spec.specs.declared.models.MessageType.{MessageType}
use Rattle.flame_spec.specs.declared.models.Model.{Model}
use Rattle.flame_spec.specs.declared.models.Variable.{Variable}
use Rattle.flame_spec.specs.Columns.{width, width_by, width_of, is_array, variable_named, elements}
use Rattle.flame_spec.specs.ExpressionFaults.{gives_array, names_array, unknown_faults, indexed_faults, getter_faults}
use Rattle.flame_spec.specs.ExpressionFaults.{is_found_array}
use Rattle.flame_spec.specs.ExpressionFaults.{member_faults, row_faults, row_faults_of, member_of, member_read}
use Rattle.flame_spec.specs.ExpressionFaults.{field_at_faults, fault_where}
use Rattle.flame_spec.specs.ExpressionFaults.{expression_faults, parts_faults, links_faults}
use Rattle.flame_spec.specs.Functions.{Place}
use Rattle.flame_spec.specs.KnownNames.{variables_in}
use Rattle.flame_spec.specs.LookUps.{Given, in_memory, constant, iteration, memory_got, message_read}
use Rattle.flame_spec.specs.Scopes.{Context, Sight, memory_at, messages_in, messages_at, given_at, is_open_over, input_in, input_found}
use Rattle.flame_spec.specs.Trees.{Expression, number, name, field, get, at, field_at, signed, chain, all_of, any_of}
use Rattle.flame_spec.specs.Trees.{Expressions, no_parts, part, Links, no_links, link}
use Rattle.flame_spec.proofs.FaultTests.{fault_where-none}
use Rattle.flame_body.specs.declared.slots.SlotLink.{SlotLink}
use Rattle.flame_body.specs.WordSlots.{slot_at, cells_at, cells_found, cells_given, span_found, field_span}
use Rattle.flame_body.specs.WordSlots.{field_cells, got_column, input_read, number_found}
use Rattle.flame_body.specs.NumberedTrees.{numbered, numbered_parts, numbered_links}
use Rattle.flame_body.specs.FunctionBodies.{widths_in, input_width}
use Rattle.flame_body.specs.BodyFits.{Around, fits, values_fit, is_value, is_inside, are_within, is_field}
use Rattle.flame_body.specs.BodyFits.{are_field_cells, width_of_input, fit_of_bare}
use Rattle.flame_body.proofs.Columned.{column-there, numbered-at}
use Rattle.flame_body.proofs.Columned.{mapped-at, variables-of}
use Rattle.flame_body.proofs.FitForms.{fit-Number, fit-Name, fit-Field, fit-Get, fit-At, fit-FieldAt, fit-Unary}
use Rattle.flame_body.proofs.FitForms.{fit-Chain, fit-All, fit-Any}
use Rattle.flame_body.specs.FitLaws.{Suits, unfiled}
use Rattle.flame_body.proofs.FittedWords.{memory-width, bare-value, value-value}
use Rattle.flame_body.proofs.FittedWords.{given-within, name-fits}

-- ---- arrays and getters

elements-there : (v : Variable) → is_array v ≡ true → elements v.length ≡ width_of v
elements-there v h = by_length v.length h
  where
    by_length : (length : Option ℕ) → is_some length ≡ true → elements length ≡ width_by length
    by_length (Some n) g = refl
    by_length None g = absurd (cc)

-- the array that the model gives stands within the memory
pub cells-fit :
    (context : Context) (around : Around) (word : List ℕ) (found : Option Given)
    → around.widths ≡ widths_in context.model context.runs
    → given_at context word ≡ found
    → gives_array found ≡ true
    → are_within around.widths.memory (cells_given found) ≡ true
cells-fit context around word None w is h = absurd (cc)
cells-fit context around word (Some (in_memory c v)) w is h =
    let within : c + width_of v ≤ width (memory_at context) = given-within context word c v is in
    let long : elements v.length ≡ width_of v = elements-there v h in
    let wide : around.widths.memory ≡ width (memory_at context) =
    ap (λ x. x.memory) w ∙ memory-width context.model context.runs in
    nat_le-true _ _ (omega arith)
cells-fit context around word (Some (constant n)) w is h = absurd (cc)
cells-fit context around word (Some iteration) w is h = absurd (cc)

getter-fits :
    (context : Context) (around : Around) (line : ℕ) (word : List ℕ) (found : Option (ℕ × Variable))
    → around.widths ≡ widths_in context.model context.runs
    → memory_got (memory_at context) word ≡ found
    → getter_faults context found line word ≡ []
    → is_found_array found ≡ false
    → nat_lt (span_found found).column around.widths.memory ≡ true
getter-fits context around line word None w is none plain = absurd (cc)
getter-fits context around line word (Some f) w is none plain =
    let within : f.0 + width_of f.1 ≤ width (memory_at context) =
    column-there (λ variable. bytes_eq (codes "get_" ++ variable.name) word) (memory_at context) f.0 f.1 is in
    let one : width_of f.1 ≡ 1 = ap width_by (is_some-false f.1.length plain) in
    let wide : around.widths.memory ≡ width (memory_at context) =
    ap (λ x. x.memory) w ∙ memory-width context.model context.runs in
    lt-ltb _ _ (omega arith)

-- ---- rows of messages

pub record RowFound (context : Context) (sight : Sight) (word variable : List ℕ) : Type 0 where
  pub message : ℕ × MessageType
  pub found : message_read (messages_at context) word ≡ Some message
  pub opened : is_open_over sight message.1 ≡ true
  pub member : is_some (variable_named message.1.variables variable) ≡ true

pub row-found :
    (context : Context) (sight : Sight) (line : ℕ) (word variable : List ℕ)
    → row_faults context sight line word variable ≡ []
    → RowFound context sight word variable
row-found context sight line word variable none =
    by_message (message_read (messages_at context) word) refl none
  where
    by_message :
        (found : Option (ℕ × MessageType))
        → message_read (messages_at context) word ≡ found
        → row_faults_of context sight found line word variable ≡ []
        → RowFound context sight word variable
    by_message None is h = absurd (cc)
    by_message (Some m) is h =
        let test = not (is_open_over sight m.1) in
        let behind = member_faults context (variable_named m.1.variables variable) line variable in
        record {
          message = m;
          found = is;
          opened = not-false (is_open_over sight m.1)
              (fault_where-none test context _ line word (append-is_nil_left (fault_where test context _ line word) behind h));
          member = not-false (is_some (variable_named m.1.variables variable))
              (fault_where-none (not (is_some (variable_named m.1.variables variable))) context _ line variable
              (append-is_nil_right (fault_where test context _ line word) behind h));
        }

pub row-width :
    (model : Model) (runs : Option Place) (word : List ℕ) (m : ℕ × MessageType) (n : ℕ) (input : Input)
    → message_read (messages_in runs model) word ≡ Some m
    → input_in runs m.1 ≡ Some (n, input)
    → slice_index_or (widths_in model runs).inputs n 0 ≡ width m.1.variables
row-width model None word m n input found is = absurd (cc)
row-width model (Some place) word m n input found is =
    let at = numbered-at (λ other. bytes_eq other.message m.1.name) 0 place.function.inputs n input is in
    let named : input.message ≡ m.1.name = (bytes_eq-Decides input.message m.1.name).0 at.passes_it in
    let number : n ≡ at.place = omega (arith, at.number) in
    ap (λ k. slice_index_or (map (input_width model) place.function.inputs) k 0) number
    ∙ mapped-at (input_width model) place.function.inputs at.place input at.there
    ∙ ap (λ name. width (variables_in model.messages name)) named
    ∙ ap width (variables-of (codes "_message") word 0 model.messages m.0 m.1 found)

-- the variable that is read stands in a loop of its input, and within the message's row
pub record FieldStands (around : Around) (input : ℕ) (end : ℕ) : Type 0 where
  pub inside : is_inside input around ≡ true
  pub within : end ≤ width_of_input around input

pub field-stands :
    (context : Context) (sight : Sight) (around : Around) (word variable : List ℕ) (c : ℕ) (v : Variable)
    → Suits context sight around
    → RowFound context sight word variable
    → member_read context word variable ≡ Some (c, v)
    → FieldStands around (input_read context word) (c + width_of v)
field-stands context sight around word variable c v suits row is =
    let input = is_some-true (input_in context.runs row.message.1) (suits.inputs row.message.1 row.opened) in
    let number : input_read context word ≡ input.0.0 =
    ap (λ m. number_found (input_found context.runs m)) row.found ∙ ap number_found input.1 in
    let member : variable_named row.message.1.variables variable ≡ Some (c, v) =
    sym (ap (λ m. member_of m variable) row.found) ∙ is in
    let within : c + width_of v ≤ width row.message.1.variables =
    column-there (λ other. bytes_eq other.name variable) row.message.1.variables c v member in
    let wide : width_of_input around (input_read context word) ≡ width row.message.1.variables =
    ap (width_of_input around) number
    ∙ ap (λ w. slice_index_or w.inputs input.0.0 0) suits.widths
    ∙ row-width context.model context.runs word row.message input.0.0 input.0.1 row.found input.1 in
    record {
      inside = ap (λ n. is_inside n around) number ∙ suits.inside row.message.1 input.0.0 input.0.1 row.opened input.1;
      within = omega arith;
    }

field-fits :
    (context : Context) (sight : Sight) (around : Around) (line : ℕ) (word variable : List ℕ)
    (found : Option (ℕ × Variable))
    → Suits context sight around
    → RowFound context sight word variable
    → member_read context word variable ≡ found
    → is_found_array found ≡ false
    → is_value (fit_of_bare (is_field around (input_read context word) (span_found found)) (span_found found).length)
    ≡ true
field-fits context sight around line word variable None suits row is plain =
    let member : variable_named row.message.1.variables variable ≡ None =
    sym (ap (λ m. member_of m variable) row.found) ∙ is in
    let there = row.member in
    absurd (cc)
field-fits context sight around line word variable (Some (c, v)) suits row is plain =
    let stands = field-stands context sight around word variable c v suits row is in
    bare-value _ v.length
    (and_from _ _ stands.inside (nat_le-true _ _ stands.within))
    (is_some-false v.length plain)

field-cells-fit :
    (context : Context) (sight : Sight) (around : Around) (word variable : List ℕ) (found : Option (ℕ × Variable))
    → Suits context sight around
    → RowFound context sight word variable
    → member_read context word variable ≡ found
    → is_found_array found ≡ true
    → are_field_cells around (input_read context word) (cells_found found) ≡ true
field-cells-fit context sight around word variable None suits row is array = absurd (cc)
field-cells-fit context sight around word variable (Some (c, v)) suits row is array =
    let stands = field-stands context sight around word variable c v suits row is in
    let within = stands.within in
    let long : elements v.length ≡ width_of v = elements-there v array in
    and_from _ _ stands.inside (nat_le-true _ _ (omega arith))

-- ---- expressions

mutual
  pub expression-fits :
      (context : Context) (sight : Sight) (around : Around) (e : Expression)
      → Suits context sight around
      → expression_faults context sight e ≡ []
      → fits around (numbered (unfiled context) sight e) ≡ true
  expression-fits context sight around (number n) suits none = ap is_value (fit-Number around n)
  expression-fits context sight around (name line word) suits none =
      ap is_value (fit-Name around (slot_at context sight word)) ∙ name-fits context sight around line word suits none
  expression-fits context sight around (field line word variable) suits none =
      let rows = row_faults context sight line word variable in
      let arrays = fault_where (is_found_array (member_read context word variable)) context _ line variable in
      ap is_value (fit-Field around (input_read context word) (field_span context word variable))
      ∙ field-fits context sight around line word variable (member_read context word variable) suits
      (row-found context sight line word variable (append-is_nil_left rows arrays none)) refl
      (fault_where-none (is_found_array (member_read context word variable)) context _ line variable
      (append-is_nil_right rows arrays none))
  expression-fits context sight around (get line word) suits none =
      let found = memory_got (memory_at context) word in
      let arrays = fault_where (is_found_array found) context _ line word in
      ap is_value (fit-Get around (got_column context word))
      ∙ value-value _ (getter-fits context around line word found suits.widths refl
      (append-is_nil_left (getter_faults context found line word) arrays none)
      (fault_where-none (is_found_array found) context _ line word
      (append-is_nil_right (getter_faults context found line word) arrays none)))
  expression-fits context sight around (at line word index_line index) suits none =
      let front = unknown_faults context sight line word ++ indexed_faults context line word in
      let inner = expression_faults context sight index in
      ap is_value (fit-At around (cells_at context word)
      (record { line = index_line; index = numbered (unfiled context) sight index }))
      ∙ value-value _ (and_from _ _
      (cells-fit context around word (given_at context word) suits.widths refl
      (not-false (names_array context word) (fault_where-none (not (names_array context word)) context _ line word
      (append-is_nil_right (unknown_faults context sight line word) (indexed_faults context line word)
      (append-is_nil_left front inner none)))))
      (expression-fits context sight around index suits (append-is_nil_right front inner none)))
  expression-fits context sight around (field_at line word variable index_line index) suits none =
      let found = member_read context word variable in
      let rows = row_faults context sight line word variable in
      let arrays = fault_where (not (is_found_array found)) context _ line variable in
      let front = field_at_faults context sight line word variable in
      let inner = expression_faults context sight index in
      let before = append-is_nil_left front inner none in
      ap is_value (fit-FieldAt around (input_read context word) (field_cells context word variable)
      (record { line = index_line; index = numbered (unfiled context) sight index }))
      ∙ value-value _ (and_from _ _
      (field-cells-fit context sight around word variable found suits
      (row-found context sight line word variable (append-is_nil_left rows arrays before)) refl
      (not-false (is_found_array found) (fault_where-none (not (is_found_array found)) context _ line variable
      (append-is_nil_right rows arrays before))))
      (expression-fits context sight around index suits (append-is_nil_right front inner none)))
  expression-fits context sight around (signed signs e) suits none =
      ap is_value (fit-Unary around signs (numbered (unfiled context) sight e))
      ∙ value-value _ (expression-fits context sight around e suits none)
  expression-fits context sight around (chain e more) suits none =
      ap is_value (fit-Chain around (numbered (unfiled context) sight e) (numbered_links (unfiled context) sight more))
      ∙ value-value _ (and_from _ _
      (expression-fits context sight around e suits
      (append-is_nil_left (expression_faults context sight e) (links_faults context sight more) none))
      (links-fit context sight around more suits
      (append-is_nil_right (expression_faults context sight e) (links_faults context sight more) none)))
  expression-fits context sight around (all_of parts) suits none =
      ap is_value (fit-All around (numbered_parts (unfiled context) sight parts))
      ∙ value-value _ (parts-fit context sight around parts suits none)
  expression-fits context sight around (any_of parts) suits none =
      ap is_value (fit-Any around (numbered_parts (unfiled context) sight parts))
      ∙ value-value _ (parts-fit context sight around parts suits none)

  pub parts-fit :
      (context : Context) (sight : Sight) (around : Around) (parts : Expressions)
      → Suits context sight around
      → parts_faults context sight parts ≡ []
      → values_fit around (numbered_parts (unfiled context) sight parts) ≡ true
  parts-fit context sight around no_parts suits none = refl
  parts-fit context sight around (part e parts) suits none =
      and_from _ _
      (expression-fits context sight around e suits
      (append-is_nil_left (expression_faults context sight e) (parts_faults context sight parts) none))
      (parts-fit context sight around parts suits
      (append-is_nil_right (expression_faults context sight e) (parts_faults context sight parts) none))

  links-fit :
      (context : Context) (sight : Sight) (around : Around) (links : Links)
      → Suits context sight around
      → links_faults context sight links ≡ []
      → list_all (λ l. l) (map (λ (l : SlotLink). fits around l.right) (numbered_links (unfiled context) sight links))
      ≡ true
  links-fit context sight around no_links suits none = refl
  links-fit context sight around (link op line e links) suits none =
      and_from _ _
      (expression-fits context sight around e suits
      (append-is_nil_left (expression_faults context sight e) (links_faults context sight links) none))
      (links-fit context sight around links suits
      (append-is_nil_right (expression_faults context sight e) (links_faults context sight links) none))
