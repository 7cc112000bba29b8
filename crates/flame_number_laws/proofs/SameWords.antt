-- What words stand for has the value that the words have.
use Rattle.std.proofs.Common.{◌≡◌, ℕ, ◌+◌, Bool, true, false, cond, ◌||◌, List, [], ◌∷◌, ◌++◌, length, Option, Some, None, true≢false}
use Rattle.std.proofs.Common.{refl, sym, ap, ◌∙◌, codes, arith}
use Rattle.std.specs.Prelude.{ℤ, pos, negsuc, nat_lt, is_some, unwrap_or}
use Rattle.std.specs.List.{list_any}
use Rattle.std.specs.Str.{bytes_eq}
use Rattle.std.proofs.lemmas.Bool.{not-false}
use Rattle.std.proofs.lemmas.Bool.Decides.{nat_tests}
use Rattle.flame_spec.specs.declared.faults.CheckKind.TheVariants.{NotArray, UnknownCall}
use Rattle.flame_spec.specs.declared.models.MessageType.{MessageType}
use Rattle.flame_spec.specs.declared.models.Variable.{Variable}
use Rattle.flame_spec.specs.Conditions.{number_at}
use Rattle.flame_spec.specs.Definitions.{Definition, helper_named}
use Rattle.flame_spec.specs.ExpressionFaults.{unknown_faults, indexed_faults, getter_faults, row_faults, names_array, member_of, member_read}
use Rattle.flame_spec.specs.LookUps.{Given, in_memory, constant, iteration, memory_named, constant_named, is_iteration, given_beside, given_by}
use Rattle.flame_spec.specs.LookUps.{memory_got, message_read}
use Rattle.flame_spec.specs.Scopes.{Context, Loop, Sight, names_seen, memory_at, messages_at, given_at, is_over, input_in, input_found}
use Rattle.flame_spec.proofs.FaultTests.{fault_where-none}
use Rattle.flame_body.specs.WordSlots.{local_number, slot_or_given, slot_given, slot_at, cells_found, cells_given, cells_at, span_found}
use Rattle.flame_body.specs.WordSlots.{field_span, field_cells, got_column, input_read, number_found}
use Rattle.flame_body.specs.FunctionBodies.{widths_in}
use Rattle.flame_body.specs.FitLaws.{unfiled}
use Rattle.flame_body.proofs.FittedExpressions.{row-found}
use Rattle.flame_meaning.specs.Scenes.{Scene, Progress, local_value, value_given, named, array_named, value_found, got, row_over, row_found, row_read, field_value}
use Rattle.flame_meaning.specs.Scenes.{element_column, numbers_of}
use Rattle.flame_meaning.specs.Outcomes.{message_named}
use Rattle.flame_meaning.specs.Agreement.{names_of, Agrees}
use Rattle.flame_meaning.proofs.Agreeing.{named_first}
use Rattle.flame_meaning.proofs.Finding.{given_there, memory_there, messages_there, named_there, array_there, given_array}
use Rattle.flame_number_laws.specs.NumberedScenes.{NumberedScene, slot_value, slot_numbers, span_numbers, cell_column}
use Rattle.flame_number_laws.proofs.BaredLocals.{no-value, value-found}
use Rattle.flame_number_laws.proofs.BaredEnds.{bared}

-- what a numbered body has before it is what the named one has at a place in these loops
pub record Matches (place : Context) (loops : List Loop) (scene : Scene) (before : NumberedScene) : Type 0 where
  pub widths : before.widths ≡ widths_in place.model place.runs
  pub constants : before.constants ≡ scene.constants
  pub same_iteration : before.iteration ≡ scene.iteration
  pub readings : before.readings ≡ scene.readings
  pub inputs : (message : MessageType) → list_any (is_over message) loops ≡ true → is_some (input_in place.runs message) ≡ true
  pub current_rows : (number : ℕ) (message : MessageType)
      → message_named (messages_at place) message.name ≡ Some (number, message)
      → list_any (is_over message) loops ≡ true
      → before.current_rows (number_found (input_in place.runs message)) ≡ row_over number scene.open_loops
  pub answers : (word : List ℕ) (found : ℕ × Definition) (line : ℕ) (values : List ℤ) (fuel : ℕ)
      → helper_named place.helpers word ≡ Some found
      → length values ≡ length found.1.parameters
      → before.answers line found.0 values fuel ≡ scene.answers line found.1 values fuel

-- ---- what the model gives

-- the memory variable that the model gives, if it gives one
abbrev pub memory_of : Option Given → Option (ℕ × Variable)
memory_of (Some (in_memory column variable)) = Some (column, variable)
memory_of _ = None

pub memory-of :
    (found : Option (ℕ × Variable)) (constants : List (List ℕ)) (word : List ℕ)
    → memory_of (given_by found constants word) ≡ found
memory-of (Some found) constants word = refl
memory-of None constants word = by_constant (constant_named constants word)
  where
    by_word : (b : Bool) → memory_of (cond b (Some iteration) None) ≡ None
    by_word true = refl
    by_word false = refl

    by_constant : (o : Option (ℕ × List ℕ)) → memory_of (given_beside o word) ≡ None
    by_constant (Some found) = refl
    by_constant None = by_word (is_iteration word)

-- ---- elements

none-below : (n : ℕ) → nat_lt n 0 ≡ false
none-below n = grind (arith, nat_tests)

pub found-cells : (o : Option (ℕ × Variable)) (i : ℤ) → cell_column (cells_found o) i ≡ element_column o i
found-cells None (pos n) = ap (λ b. cond b (Some (0 + n)) None) (none-below n)
found-cells None (negsuc n) = refl
found-cells (Some found) (pos n) = refl
found-cells (Some found) (negsuc n) = refl

given-cells : (g : Option Given) → cells_given g ≡ cells_found (memory_of g)
given-cells None = refl
given-cells (Some (in_memory column variable)) = refl
given-cells (Some (constant n)) = refl
given-cells (Some iteration) = refl

-- ---- variables that are found

pub found-value : (o : Option (ℕ × Variable)) (row : List ℤ) → is_some o ≡ true → number_at row (span_found o).column ≡ value_found o row
found-value None row h = absurd (true≢false (sym h))
found-value (Some found) row h = refl

pub found-numbers :
    (o : Option (ℕ × Variable)) (row : List ℤ)
    → is_some o ≡ true
    → span_numbers (span_found o) row ≡ numbers_of o row (value_found o row)
found-numbers None row h = absurd (true≢false (sym h))
found-numbers (Some found) row h = refl

module _ (place : Context) (sight : Sight) (scene : Scene) (before : NumberedScene) (s : Progress) (a : Agrees place sight scene s) (k : Matches place sight.loops scene before) where
  -- ---- names

  -- a visible word without a number is given by the model
  unknown :
      (line : ℕ) (word : List ℕ)
      → unknown_faults place sight line word ≡ []
      → local_value word s.locals ≡ None
      → given_at place word ≡ None
      → ⊥
  unknown line word none is given =
      true≢false
      (sym (named_there place sight scene s a line word none)
      ∙ ap (λ o. is_some o || is_some (given_at scene.context word)) is
      ∙ ap is_some (given_there place sight scene s a word ∙ given))

  number-same : (word : List ℕ) → local_number (names_of s.locals) word ≡ local_number (names_seen sight) word
  number-same word = ap (λ names. local_number names word) a.names

  pub name-same :
      (line : ℕ) (word : List ℕ)
      → unknown_faults place sight line word ≡ []
      → slot_value (slot_at (unfiled place) sight word) before (bared s) ≡ named word scene s
  name-same line word none =
      ap (λ o. slot_value (slot_or_given o (given_at place word)) before (bared s)) (sym (number-same word))
      ∙ by_number (local_number (names_of s.locals) word) refl (given_at place word) refl
      ∙ ap (λ g. unwrap_or (local_value word s.locals) (value_given g scene s)) (sym (given_there place sight scene s a word))
    where
      by_number :
          (o : Option ℕ)
          → local_number (names_of s.locals) word ≡ o
          → (g : Option Given)
          → given_at place word ≡ g
          → slot_value (slot_or_given o g) before (bared s) ≡ unwrap_or (local_value word s.locals) (value_given g scene s)
      by_number (Some n) is g given = sym (ap (λ v. unwrap_or v (value_given g scene s)) (value-found word s.locals n is))
      by_number None is (Some (in_memory column variable)) given =
          sym (ap (λ v. unwrap_or v (number_at s.memory column)) (no-value word s.locals is))
      by_number None is (Some (constant n)) given =
          ap (λ l. number_at l n) k.constants
          ∙ sym (ap (λ v. unwrap_or v (number_at scene.constants n)) (no-value word s.locals is))
      by_number None is (Some iteration) given =
          k.same_iteration ∙ sym (ap (λ v. unwrap_or v scene.iteration) (no-value word s.locals is))
      by_number None is None given = absurd (unknown line word none (no-value word s.locals is) given)

  pub name-numbers :
      (line : ℕ) (word : List ℕ)
      → unknown_faults place sight line word ≡ []
      → slot_numbers (slot_at (unfiled place) sight word) before (bared s)
      ≡ numbers_of (array_named word scene s) s.memory (named word scene s)
  name-numbers line word none =
      ap (λ o. slot_numbers (slot_or_given o (given_at place word)) before (bared s)) (sym (number-same word))
      ∙ by_number (local_number (names_of s.locals) word) refl (given_at place word) refl
      ∙ ap (λ f. numbers_of (cond (is_some (local_value word s.locals)) None f) s.memory (named word scene s))
      (memory-of (memory_named (memory_at place) word) place.model.constants word
      ∙ ap (λ m. memory_named m word) (sym (memory_there place sight scene s a)))
    where
      value : Type 0
      value = slot_value (slot_at (unfiled place) sight word) before (bared s) ≡ named word scene s

      same : value
      same = name-same line word none

      by_number :
          (o : Option ℕ)
          → local_number (names_of s.locals) word ≡ o
          → (g : Option Given)
          → given_at place word ≡ g
          → slot_numbers (slot_or_given o g) before (bared s)
          ≡ numbers_of (cond (is_some (local_value word s.locals)) None (memory_of g)) s.memory (named word scene s)
      by_number (Some n) is g given =
          ap (λ v. v ∷ [])
          (sym (ap (λ v. unwrap_or v (value_given (given_at scene.context word) scene s)) (value-found word s.locals n is)))
          ∙ sym (ap (λ o. numbers_of (cond (is_some o) None (memory_of g)) s.memory (named word scene s)) (value-found word s.locals n is))
      by_number None is (Some (in_memory column variable)) given =
          ap (λ v. numbers_of (Some (column, variable)) s.memory v) (in-memory column variable is given)
          ∙ sym (ap (λ o. numbers_of (cond (is_some o) None (Some (column, variable))) s.memory (named word scene s)) (no-value word s.locals is))
        where
          in-memory :
              (column : ℕ) (variable : Variable)
              → local_number (names_of s.locals) word ≡ None
              → given_at place word ≡ Some (in_memory column variable)
              → number_at s.memory column ≡ named word scene s
          in-memory column variable is given =
              ap (λ g. slot_value (slot_or_given None g) before (bared s)) (sym given)
              ∙ ap (λ o. slot_value (slot_or_given o (given_at place word)) before (bared s)) (sym is ∙ number-same word)
              ∙ same
      by_number None is (Some (constant n)) given =
          ap (λ v. v ∷ []) (beside (Some (constant n)) is given)
          ∙ sym (ap (λ o. numbers_of (cond (is_some o) None None) s.memory (named word scene s)) (no-value word s.locals is))
        where
          beside :
              (g : Option Given)
              → local_number (names_of s.locals) word ≡ None
              → given_at place word ≡ g
              → slot_value (slot_given g) before (bared s) ≡ named word scene s
          beside g is given =
              ap (λ f. slot_value (slot_or_given None f) before (bared s)) (sym given)
              ∙ ap (λ o. slot_value (slot_or_given o (given_at place word)) before (bared s)) (sym is ∙ number-same word)
              ∙ same
      by_number None is (Some iteration) given =
          ap (λ v. v ∷ []) (beside (Some iteration) is given)
          ∙ sym (ap (λ o. numbers_of (cond (is_some o) None None) s.memory (named word scene s)) (no-value word s.locals is))
        where
          beside :
              (g : Option Given)
              → local_number (names_of s.locals) word ≡ None
              → given_at place word ≡ g
              → slot_value (slot_given g) before (bared s) ≡ named word scene s
          beside g is given =
              ap (λ f. slot_value (slot_or_given None f) before (bared s)) (sym given)
              ∙ ap (λ o. slot_value (slot_or_given o (given_at place word)) before (bared s)) (sym is ∙ number-same word)
              ∙ same
      by_number None is None given = absurd (unknown line word none (no-value word s.locals is) given)

  -- ---- arrays of the memory

  pub cells-same :
      (line : ℕ) (word : List ℕ) (i : ℤ)
      → indexed_faults place line word ≡ []
      → cell_column (cells_at (unfiled place) word) i ≡ element_column (array_named word scene s) i
  cells-same line word i none =
      let array : names_array place word ≡ true
      = not-false _ (fault_where-none _ place NotArray line word none) in
      let given = (given_array (memory_named (memory_at place) word) place.model.constants word array).1 in
      ap (λ c. cell_column c i) (given-cells (given_at place word))
      ∙ found-cells (memory_of (given_at place word)) i
      ∙ ap (λ f. element_column f i)
      (memory-of (memory_named (memory_at place) word) place.model.constants word
      ∙ sym (array_there place sight scene s a word given))

  -- ---- the row of a message

  pub row-same :
      (line : ℕ) (word variable : List ℕ)
      → row_faults place sight line word variable ≡ []
      → before.current_rows (input_read (unfiled place) word) ≡ row_read word scene
  row-same line word variable none =
      let found = row-found place sight line word variable none in
      ap (λ m. before.current_rows (number_found (input_found place.runs m))) found.found
      ∙ k.current_rows found.message.0 found.message.1
      (named_first (λ n. bytes_eq (n ++ codes "_message") word) (messages_at place) found.message found.found)
      found.opened
      ∙ sym (ap (λ m. row_found m scene.open_loops)
      (ap (λ m. message_read m word) (messages_there place sight scene s a) ∙ found.found))

  pub member-there : (word variable : List ℕ) → member_read scene.context word variable ≡ member_read place word variable
  member-there word variable = ap (λ (c : Context). member_read c word variable) a.there

  member-some :
      (line : ℕ) (word variable : List ℕ)
      → row_faults place sight line word variable ≡ []
      → is_some (member_read place word variable) ≡ true
  member-some line word variable none =
      let found = row-found place sight line word variable none in
      ap (λ m. is_some (member_of m variable)) found.found ∙ found.member

  pub field-same :
      (line : ℕ) (word variable : List ℕ)
      → row_faults place sight line word variable ≡ []
      → number_at (before.current_rows (input_read (unfiled place) word)) (field_span (unfiled place) word variable).column
      ≡ field_value word variable scene
  field-same line word variable none =
      ap (λ row. number_at row (field_span (unfiled place) word variable).column) (row-same line word variable none)
      ∙ found-value (member_read place word variable) (row_read word scene) (member-some line word variable none)
      ∙ ap (λ o. value_found o (row_read word scene)) (sym (member-there word variable))

  pub field-numbers :
      (line : ℕ) (word variable : List ℕ)
      → row_faults place sight line word variable ≡ []
      → span_numbers (field_span (unfiled place) word variable) (before.current_rows (input_read (unfiled place) word))
      ≡ numbers_of (member_read scene.context word variable) (row_read word scene) (field_value word variable scene)
  field-numbers line word variable none =
      ap (span_numbers (field_span (unfiled place) word variable)) (row-same line word variable none)
      ∙ found-numbers (member_read place word variable) (row_read word scene) (member-some line word variable none)
      ∙ ap (λ o. numbers_of o (row_read word scene) (value_found o (row_read word scene))) (sym (member-there word variable))

  pub field-cells :
      (word variable : List ℕ) (i : ℤ)
      → cell_column (field_cells (unfiled place) word variable) i ≡ element_column (member_read scene.context word variable) i
  field-cells word variable i =
      found-cells (member_read place word variable) i ∙ ap (λ o. element_column o i) (sym (member-there word variable))

  -- ---- getters

  pub got-same :
      (line : ℕ) (word : List ℕ)
      → getter_faults place (memory_got (memory_at place) word) line word ≡ []
      → number_at s.memory (got_column (unfiled place) word) ≡ got word scene s
  got-same line word none =
      found-value (memory_got (memory_at place) word) s.memory (not-false _ (fault_where-none _ place UnknownCall line word none))
      ∙ ap (λ m. value_found (memory_got m word) s.memory) (sym (memory_there place sight scene s a))
