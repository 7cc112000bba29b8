-- What is stored, declared, assigned and done is the same with numbers in place of names.
use Rattle.std.proofs.Common.{◌≡◌, ℕ, true, cond, ◌||◌, List, [], ◌∷◌, ◌++◌, map, length, Option, Some, None, refl, sym, ap, ◌∙◌, arith, true≢false}
use Rattle.std.specs.Prelude.{ℤ, pos, is_some, slice_index_or, option_map}
use Rattle.flame_rows.proofs.Lists.{append-is_nil_left, append-is_nil_right}
use Rattle.flame_ops.specs.declared.integers.Op.{Op}
use Rattle.flame_ops.specs.Integers.{applied}
use Rattle.flame_spec.specs.declared.models.AgentType.{AgentType}
use Rattle.flame_spec.specs.declared.models.MessageType.{MessageType}
use Rattle.flame_spec.specs.declared.faults.CheckKind.TheVariants.{ReadOnly}
use Rattle.flame_spec.specs.CallFaults.{Deed, sets, sends, bears, calls, called_by, deed_of, places_of, arguments_faults, deed_faults, call_faults}
use Rattle.flame_spec.specs.Columns.{width}
use Rattle.flame_spec.specs.Conditions.{number_at}
use Rattle.flame_spec.specs.Definitions.{Definition, helper_named}
use Rattle.flame_spec.specs.ExpressionFaults.{fault_where, unknown_faults, indexed_faults, expression_faults}
use Rattle.flame_spec.specs.LookUps.{Given, in_memory, constant, iteration, memory_named}
use Rattle.flame_spec.specs.Scopes.{Context, Sight, memory_at, given_at, in_value_of, after_name, names_seen}
use Rattle.flame_spec.specs.StatementFaults.{stored_faults, is_read_only, subscript_faults, assignment_faults, optional_assignment_faults, item_faults, items_faults}
use Rattle.flame_spec.specs.StatementFaults.{declared_faults, optional_stored_faults}
use Rattle.flame_spec.specs.Trees.{Expressions, Stored, plain, called, Indexed, Declared, Assigned}
use Rattle.flame_body.specs.declared.slots.SlotTarget.{SlotTarget}
use Rattle.flame_body.specs.declared.slots.SlotTarget.TheVariants as target
use Rattle.flame_body.specs.WordSlots.{local_number, slot_or_given, target_or_given, target_at, cells_at, deed_slot, deed_at, helper_at, number_found}
use Rattle.flame_body.specs.NumberedTrees.{numbered_parts, numbered_index, numbered_stored, numbered_target, numbered_assignment, numbered_items}
use Rattle.flame_body.specs.FunctionBodies.{widths_in}
use Rattle.flame_body.specs.FitLaws.{unfiled}
use Rattle.flame_body.proofs.Columned.{numbered-at, mapped-at}
use Rattle.flame_meaning.specs.Scenes.{Scene, Progress, local_value, named, array_named, element_column}
use Rattle.flame_meaning.specs.Expressions.{at_line, value_of as value_named, values_of}
use Rattle.flame_meaning.specs.Ends.{End, went_on, with_value, with_values, after_call}
use Rattle.flame_meaning.specs.Statements.{helped, set_local, set_found, set_column, set_name, with_column, with_local as with_named, fitted, step_of as step_named}
use Rattle.flame_meaning.specs.Statements.{by_value as by_named, by_initial as by_first, declarations as declared, assignment as assigned, done as done_named}
use Rattle.flame_meaning.specs.Statements.{assigned_by as assigned_named}
use Rattle.flame_meaning.specs.Agreement.{names_of, Agrees}
use Rattle.flame_meaning.specs.AcceptedMeaning.{PlaceFinds, room}
use Rattle.flame_meaning.proofs.Agreeing.{item_agrees, inside_agree}
use Rattle.flame_meaning.proofs.Finding.{memory_there, place_finds}
use Rattle.flame_meaning.proofs.Fitting.{stored_finds, call_does}
use Rattle.flame_number_laws.specs.NumberedScenes.{NumberedScene, cell_column, local_at, slot_value}
use Rattle.flame_number_laws.specs.NumberedMeaning.{argument_numbers, by_value, by_initial, declarations, with_local_at}
use Rattle.flame_number_laws.specs.NumberedMeaning.{plainly_assigned, element_assigned, assigned_by, assignment, done, step_of}
use Rattle.flame_number_laws.proofs.BaredLocals.{no-value, value-found, set-found}
use Rattle.flame_number_laws.proofs.BaredEnds.{bared, bared_end, value-bared, values-bared, column-bared, call-bared, fuelled}
use Rattle.flame_number_laws.proofs.SameWords.{Matches, memory_of, memory-of, name-same, cells-same}
use Rattle.flame_number_laws.proofs.SameExpressions.{value-same, arguments-same}
use Rattle.flame_number_laws.proofs.Deeds.{sent_in, born_in, called_in, sent-by, born-by, called-by}

-- a local or a memory variable has the value
abbrev pub set_target : SlotTarget → ℤ → Progress → Progress
set_target (target.Local number) = with_local_at number
set_target (target.Memory column) = set_column column
set_target (target.Element cells subscript) = λ v s. s

-- the value of a local or of a memory variable
abbrev pub target_value : SlotTarget → Progress → ℤ
target_value (target.Local number) = λ s. local_at number s.locals
target_value (target.Memory column) = λ s. number_at s.memory column
target_value (target.Element cells subscript) = λ s. pos 0

-- the arguments of a helper's call have no faults
helper-arguments :
    (place : Context) (sight : Sight) (o : Option (ℕ × Definition)) (line : ℕ) (word : List ℕ) (arguments : Expressions)
    → deed_faults place sight (called_by o) line word arguments ≡ []
    → is_some o ≡ true
    → arguments_faults place sight line word [] arguments ≡ []
helper-arguments place sight None line word arguments none there = absurd (true≢false (sym there))
helper-arguments place sight (Some found) line word arguments none there = append-is_nil_right _ _ none

module _ (place : Context) (sight : Sight) (scene : Scene) (before : NumberedScene) (s : Progress) (a : Agrees place sight scene s) (k : Matches place sight.loops scene before) where
  helpers-there : (word : List ℕ) → helper_named scene.context.helpers word ≡ helper_named place.helpers word
  helpers-there word = ap (λ (c : Context). helper_named c.helpers word) a.there

  -- ---- values

  pub stored-same :
      (stored : Stored) (go other : ℤ → Progress → End)
      → stored_faults place sight stored ≡ []
      → ((v : ℤ) (fuel : ℕ) → bared_end (go v (record s { fuel = fuel })) ≡ other v (record (bared s) { fuel = fuel }))
      → bared_end (by_named stored scene s go) ≡ by_value (numbered_stored (unfiled place) sight stored) before (bared s) other
  stored-same (plain e) go other none h =
      value-bared (value_named e scene s) (λ v. go v s) (λ v. other v (bared s)) (λ v. h v s.fuel)
      ∙ ap (λ r. with_value r (λ v. other v (bared s))) (sym (value-same place sight scene before s a k e none))
  stored-same (called line word arguments) go other none h =
      let finds = stored_finds place sight scene s a (called line word arguments) none in
      let found = finds.0 in
      let is : helper_named place.helpers word ≡ Some found = sym (helpers-there word) ∙ finds.1 in
      let fits = finds.2 in
      let given = helper-arguments place sight (helper_named place.helpers word) line word arguments none (ap is_some is) in
      values-bared (values_of arguments scene s)
      (λ values. helped (helper_named scene.context.helpers word) line values scene s go)
      (λ values. after_call (before.answers line (helper_at (unfiled place) word) values s.fuel) (bared s) other)
      (λ values ok.
      ap (λ o. bared_end (helped o line values scene s go)) finds.1
      ∙ call-bared (scene.answers line found.1 values s.fuel) s go other h
      ∙ ap (λ g. after_call g (bared s) other)
      (sym (ap (λ o. before.answers line (number_found o) values s.fuel) is
      ∙ k.answers word found line values s.fuel is (fits.fit values ok))))
      ∙ ap (λ r. with_values r (λ values. after_call (before.answers line (helper_at (unfiled place) word) values s.fuel) (bared s) other))
      (sym (arguments-same place sight scene before s a k line word [] arguments given))

  pub initial-same :
      (o : Option Stored) (go other : ℤ → Progress → End)
      → optional_stored_faults place sight o ≡ []
      → ((v : ℤ) (fuel : ℕ) → bared_end (go v (record s { fuel = fuel })) ≡ other v (record (bared s) { fuel = fuel }))
      → bared_end (by_first o scene s go)
      ≡ by_initial (option_map (numbered_stored (unfiled place) sight) o) before (bared s) other
  initial-same None go other none h = h (pos 0) s.fuel
  initial-same (Some stored) go other none h = stored-same stored go other none h

  -- ---- what is assigned to

  -- it is a local or a memory variable
  target-plain :
      (o : Option ℕ) (g : Option Given)
      → assigned_by (target_or_given o g) ≡ plainly_assigned (target_value (target_or_given o g)) (set_target (target_or_given o g))
  target-plain (Some n) g = refl
  target-plain None g = refl

  number-there : (word : List ℕ) → local_number (names_of s.locals) word ≡ local_number (names_seen sight) word
  number-there word = ap (λ names. local_number names word) a.names

  -- what is assigned to without an index is found
  abbrev IsPlace : List ℕ → Type 0
  IsPlace word = PlaceFinds word None scene s

  memory-given : (word : List ℕ) → memory_named (memory_at scene.context) word ≡ memory_of (given_at place word)
  memory-given word =
      ap (λ m. memory_named m word) (memory_there place sight scene s a)
      ∙ sym (memory-of (memory_named (memory_at place) word) place.model.constants word)

  no-place : (word : List ℕ) → IsPlace word → local_value word s.locals ≡ None → memory_of (given_at place word) ≡ None → ⊥
  no-place word finds is given =
      true≢false
      (sym finds
      ∙ ap (λ o. is_some o || is_some (memory_named (memory_at scene.context) word)) is
      ∙ ap is_some (memory-given word ∙ given))

  pub set-same :
      (word : List ℕ) (v : ℤ) (fuel : ℕ)
      → PlaceFinds word None scene s
      → bared (set_name word v scene (record s { fuel = fuel }))
      ≡ set_target (target_at (unfiled place) sight word) v (record (bared s) { fuel = fuel })
  set-same word v fuel finds =
      ap (λ f. bared (cond (is_some (local_value word s.locals)) (record t { locals = set_local word v s.locals }) (set_found f v t))) (memory-given word)
      ∙ by_number (local_number (names_of s.locals) word) refl (given_at place word) refl
      ∙ ap (λ o. set_target (target_or_given o (given_at place word)) v (bared t)) (number-there word)
    where
      t : Progress
      t = record s { fuel = fuel }

      by_number :
          (o : Option ℕ)
          → local_number (names_of s.locals) word ≡ o
          → (g : Option Given)
          → given_at place word ≡ g
          → bared (cond (is_some (local_value word s.locals)) (record t { locals = set_local word v s.locals }) (set_found (memory_of g) v t))
          ≡ set_target (target_or_given o g) v (bared t)
      by_number (Some n) is g given =
          ap (λ o. bared (cond (is_some o) (record t { locals = set_local word v s.locals }) (set_found (memory_of g) v t)))
          (value-found word s.locals n is)
          ∙ ap (λ l. record t { locals = l }) (set-found word v s.locals n is)
      by_number None is (Some (in_memory column variable)) given =
          ap (λ o. bared (cond (is_some o) (record t { locals = set_local word v s.locals }) (set_column column v t)))
          (no-value word s.locals is)
      by_number None is (Some (constant n)) given =
          absurd (no-place word finds (no-value word s.locals is) (ap memory_of given))
      by_number None is (Some iteration) given =
          absurd (no-place word finds (no-value word s.locals is) (ap memory_of given))
      by_number None is None given = absurd (no-place word finds (no-value word s.locals is) (ap memory_of given))

  -- what is assigned to is read
  pub read-same :
      (line : ℕ) (word : List ℕ)
      → unknown_faults place sight line word ≡ []
      → PlaceFinds word None scene s
      → target_value (target_at (unfiled place) sight word) (bared s) ≡ named word scene s
  read-same line word none finds =
      ap (λ o. target_value (target_or_given o (given_at place word)) (bared s)) (sym (number-there word))
      ∙ by_number (local_number (names_of s.locals) word) refl (given_at place word) refl
    where
      named-so :
          (o : Option ℕ) (g : Option Given)
          → local_number (names_of s.locals) word ≡ o
          → given_at place word ≡ g
          → slot_value (slot_or_given o g) before (bared s) ≡ named word scene s
      named-so o g is given =
          ap (λ x. slot_value (slot_or_given x g) before (bared s)) (sym is ∙ number-there word)
          ∙ ap (λ x. slot_value (slot_or_given (local_number (names_seen sight) word) x) before (bared s)) (sym given)
          ∙ name-same place sight scene before s a k line word none

      by_number :
          (o : Option ℕ)
          → local_number (names_of s.locals) word ≡ o
          → (g : Option Given)
          → given_at place word ≡ g
          → target_value (target_or_given o g) (bared s) ≡ named word scene s
      by_number (Some n) is g given = named-so (Some n) g is given
      by_number None is (Some (in_memory column variable)) given = named-so None (Some (in_memory column variable)) is given
      by_number None is (Some (constant n)) given =
          absurd (no-place word finds (no-value word s.locals is) (ap memory_of given))
      by_number None is (Some iteration) given =
          absurd (no-place word finds (no-value word s.locals is) (ap memory_of given))
      by_number None is None given = absurd (no-place word finds (no-value word s.locals is) (ap memory_of given))

  -- ---- assignments

  plain-same :
      (op : Option Op) (b : Assigned)
      → unknown_faults place sight b.line b.name ≡ []
      → PlaceFinds b.name None scene s
      → stored_faults place sight b.value ≡ []
      → bared_end (assigned_named None op b scene s)
      ≡ plainly_assigned (target_value (target_at (unfiled place) sight b.name)) (set_target (target_at (unfiled place) sight b.name)) op
      b.op_line (numbered_stored (unfiled place) sight b.value) before (bared s)
  plain-same None b none finds stored =
      stored-same b.value _ _ stored (λ v fuel. ap went_on (set-same b.name v fuel finds))
  plain-same (Some op) b none finds stored =
      stored-same b.value _ (λ v t.
      with_value (at_line b.op_line (applied op (target_value (target_at (unfiled place) sight b.name) (bared s)) v))
      (λ w. went_on (set_target (target_at (unfiled place) sight b.name) w t)))
      stored
      (λ v fuel.
      value-bared (at_line b.op_line (applied op (named b.name scene s) v)) _
      (λ w. went_on (set_target (target_at (unfiled place) sight b.name) w (record (bared s) { fuel = fuel })))
      (λ w. ap went_on (set-same b.name w fuel finds))
      ∙ ap
      (λ x. with_value (at_line b.op_line (applied op x v))
      (λ w. went_on (set_target (target_at (unfiled place) sight b.name) w (record (bared s) { fuel = fuel }))))
      (sym (read-same b.line b.name none finds)))

  element-same :
      (subscript : Indexed) (op : Option Op) (b : Assigned)
      → indexed_faults place b.line b.name ≡ []
      → expression_faults place sight subscript.index ≡ []
      → stored_faults place sight b.value ≡ []
      → bared_end (assigned_named (Some subscript) op b scene s)
      ≡ element_assigned (cells_at (unfiled place) b.name) (numbered_index (unfiled place) sight subscript) op b.op_line
      (numbered_stored (unfiled place) sight b.value) before (bared s)
  element-same subscript None b array index stored =
      value-bared (value_named subscript.index scene s) _
      (λ i. by_value (numbered_stored (unfiled place) sight b.value) before (bared s) (λ v t.
      with_column subscript.line (cell_column (cells_at (unfiled place) b.name) i) (λ column. went_on (set_column column v t))))
      (λ i. stored-same b.value _ _ stored (λ v fuel.
      column-bared subscript.line (element_column (array_named b.name scene s) i) _
      (λ column. went_on (set_column column v (record (bared s) { fuel = fuel })))
      (λ column. refl)
      ∙ ap (λ o. with_column subscript.line o (λ column. went_on (set_column column v (record (bared s) { fuel = fuel }))))
      (sym (cells-same place sight scene before s a k b.line b.name i array))))
      ∙ ap
      (λ r. with_value r (λ i. by_value (numbered_stored (unfiled place) sight b.value) before (bared s) (λ v t.
      with_column subscript.line (cell_column (cells_at (unfiled place) b.name) i) (λ column. went_on (set_column column v t)))))
      (sym (value-same place sight scene before s a k subscript.index index))
  element-same subscript (Some op) b array index stored =
      value-bared (value_named subscript.index scene s) _
      (λ i. with_column subscript.line (cell_column (cells_at (unfiled place) b.name) i) (λ column.
      by_value (numbered_stored (unfiled place) sight b.value) before (bared s) (λ v t.
      with_value (at_line b.op_line (applied op (number_at s.memory column) v)) (λ w. went_on (set_column column w t)))))
      (λ i.
      column-bared subscript.line (element_column (array_named b.name scene s) i) _
      (λ column. by_value (numbered_stored (unfiled place) sight b.value) before (bared s) (λ v t.
      with_value (at_line b.op_line (applied op (number_at s.memory column) v)) (λ w. went_on (set_column column w t))))
      (λ column. stored-same b.value _ _ stored (λ v fuel.
      value-bared (at_line b.op_line (applied op (number_at s.memory column) v)) _
      (λ w. went_on (set_column column w (record (bared s) { fuel = fuel })))
      (λ w. refl)))
      ∙ ap
      (λ o. with_column subscript.line o (λ column.
      by_value (numbered_stored (unfiled place) sight b.value) before (bared s) (λ v t.
      with_value (at_line b.op_line (applied op (number_at s.memory column) v)) (λ w. went_on (set_column column w t)))))
      (sym (cells-same place sight scene before s a k b.line b.name i array)))
      ∙ ap
      (λ r. with_value r (λ i. with_column subscript.line (cell_column (cells_at (unfiled place) b.name) i) (λ column.
      by_value (numbered_stored (unfiled place) sight b.value) before (bared s) (λ v t.
      with_value (at_line b.op_line (applied op (number_at s.memory column) v)) (λ w. went_on (set_column column w t))))))
      (sym (value-same place sight scene before s a k subscript.index index))

  form-same :
      (subscript : Option Indexed) (op : Option Op) (b : Assigned)
      → unknown_faults place sight b.line b.name ≡ []
      → fault_where (is_read_only place b.name) place ReadOnly b.line b.name ≡ []
      → subscript_faults place sight b.line b.name subscript ≡ []
      → stored_faults place sight b.value ≡ []
      → bared_end (assigned_named subscript op b scene s)
      ≡ assigned_by (numbered_target (unfiled place) sight b.name subscript) op b.op_line (numbered_stored (unfiled place) sight b.value) before (bared s)
  form-same None op b seen free bracket stored =
      plain-same op b seen (place_finds place sight scene s a b.line b.name None seen free bracket) stored
      ∙ ap (λ f. f op b.op_line (numbered_stored (unfiled place) sight b.value) before (bared s))
      (sym (target-plain (local_number (names_seen sight) b.name) (given_at place b.name)))
  form-same (Some subscript) op b seen free bracket stored =
      element-same subscript op b (append-is_nil_left _ _ bracket) (append-is_nil_right (indexed_faults place b.line b.name) _ bracket) stored

  pub assignment-same :
      (b : Assigned)
      → assignment_faults place sight b ≡ []
      → bared_end (assigned b scene s) ≡ assignment (numbered_assignment (unfiled place) sight b) before (bared s)
  assignment-same b none =
      let unknown = unknown_faults place sight b.line b.name in
      let read = fault_where (is_read_only place b.name) place ReadOnly b.line b.name in
      let bracket = subscript_faults place sight b.line b.name b.subscript in
      let three = unknown ++ read ++ bracket in
      let front : three ≡ [] = append-is_nil_left three _ none in
      let two : unknown ++ read ≡ [] = append-is_nil_left (unknown ++ read) _ front in
      form-same b.subscript b.op b
      (append-is_nil_left unknown _ two)
      (append-is_nil_right unknown _ two)
      (append-is_nil_right (unknown ++ read) _ front)
      (append-is_nil_right three _ none)

  pub step-same :
      (step : Option Assigned)
      → optional_assignment_faults place sight step ≡ []
      → bared_end (step_named step scene s) ≡ step_of (option_map (numbered_assignment (unfiled place) sight) step) before (bared s)
  step-same None none = refl
  step-same (Some b) none = assignment-same b none

  -- ---- calls

  messages-width :
      (n : ℕ) (m : MessageType) (word : List ℕ)
      → deed_of place word ≡ Some (sends n m)
      → slice_index_or before.widths.messages n 0 ≡ width m.variables
  messages-width n m word is =
      let adds = sent-by place word (n, m) (ap sent_in is) in
      let at = numbered-at _ 0 place.model.messages n m adds.there in
      let number : n ≡ at.place = omega (arith, at.number) in
      ap (λ w. slice_index_or w.messages n 0) k.widths
      ∙ ap (λ r. slice_index_or (widths_in place.model r).messages n 0) adds.runs
      ∙ ap (λ i. slice_index_or (map (λ message. width message.variables) place.model.messages) i 0) number
      ∙ mapped-at (λ message. width message.variables) place.model.messages at.place m at.there

  agents-width :
      (n : ℕ) (t : AgentType) (word : List ℕ)
      → deed_of place word ≡ Some (bears n t)
      → slice_index_or before.widths.agents n 0 ≡ width t.memory
  agents-width n t word is =
      let adds = born-by place word (n, t) (ap born_in is) in
      let at = numbered-at _ 0 place.model.agents n t adds.there in
      let number : n ≡ at.place = omega (arith, at.number) in
      ap (λ w. slice_index_or w.agents n 0) k.widths
      ∙ ap (λ r. slice_index_or (widths_in place.model r).agents n 0) adds.runs
      ∙ ap (λ i. slice_index_or (map (λ type. width type.memory) place.model.agents) i 0) number
      ∙ mapped-at (λ type. width type.memory) place.model.agents at.place t at.there

  deed-same :
      (deed : Deed) (line : ℕ) (word : List ℕ) (values : List ℤ)
      → deed_of place word ≡ Some deed
      → length values ≡ room deed
      → bared_end (done_named (Some deed) line values scene s) ≡ done (deed_slot line (Some deed)) values before (bared s)
  deed-same (sets column variable) line word values is fit = refl
  deed-same (sends n m) line word values is fit =
      ap (λ w. went_on (record (bared s) { sent = s.sent ++ record { message = n; row = fitted w values } ∷ [] }))
      (sym (messages-width n m word is))
  deed-same (bears n t) line word values is fit =
      ap (λ w. went_on (record (bared s) { born = s.born ++ record { agent = n; row = fitted w values } ∷ [] }))
      (sym (agents-width n t word is))
  deed-same (calls n h) line word values is fit =
      call-bared (scene.answers line h values s.fuel) s _ (λ v t. went_on t) (λ v fuel. refl)
      ∙ ap (λ g. after_call g (bared s) (λ v t. went_on t))
      (sym (k.answers word (n, h) line values s.fuel (called-by place word (n, h) (ap called_in is)) fit))

  given-arguments :
      (o : Option Deed) (deed : Deed) (line : ℕ) (word : List ℕ) (arguments : Expressions)
      → deed_faults place sight o line word arguments ≡ []
      → o ≡ Some deed
      → arguments_faults place sight line word (places_of deed) arguments ≡ []
  given-arguments None deed line word arguments none is = absurd (cc)
  given-arguments (Some other) deed line word arguments none is =
      let same : other ≡ deed = cc in
      ap (λ d. arguments_faults place sight line word (places_of d) arguments) (sym same) ∙ append-is_nil_right _ _ none

  pub call-same :
      (line : ℕ) (word : List ℕ) (arguments : Expressions)
      → call_faults place sight line word arguments ≡ []
      → bared_end (with_values (values_of arguments scene s) (λ values. done_named (deed_of scene.context word) line values scene s))
      ≡ with_values (argument_numbers (numbered_parts (unfiled place) sight arguments) before (bared s))
      (λ values. done (deed_at (unfiled place) line word) values before (bared s))
  call-same line word arguments none =
      let does = call_does place sight scene s a line word arguments none in
      let deed = does.0 in
      let there : deed_of scene.context word ≡ deed_of place word = ap (λ (c : Context). deed_of c word) a.there in
      let is : deed_of place word ≡ Some deed = sym there ∙ does.1 in
      let fits = does.2 in
      values-bared (values_of arguments scene s) _
      (λ values. done (deed_at (unfiled place) line word) values before (bared s))
      (λ values ok.
      ap (λ o. bared_end (done_named o line values scene s)) does.1
      ∙ deed-same deed line word values is (fits.fit values ok)
      ∙ sym (ap (λ o. done (deed_slot line o) values before (bared s)) is))
      ∙ ap (λ r. with_values r (λ values. done (deed_at (unfiled place) line word) values before (bared s)))
      (sym (arguments-same place sight scene before s a k line word (places_of deed) arguments
      (given-arguments (deed_of place word) deed line word arguments none is)))

-- ---- declarations

pub items-same :
    (place : Context) (sight : Sight) (scene : Scene) (before : NumberedScene) (s : Progress) (items : List Declared)
    → Agrees place sight scene s
    → Matches place sight.loops scene before
    → items_faults place sight items ≡ []
    → bared_end (declared items scene s) ≡ declarations (numbered_items (unfiled place) sight items) before (bared s)
items-same place sight scene before s [] a k none = refl
items-same place sight scene before s (item ∷ items) a k none =
    let one : item_faults place sight item ≡ [] = append-is_nil_left _ _ none in
    let more = append-is_nil_right (item_faults place sight item) _ none in
    let inner = (inside_agree place sight scene s item.name a).2 in
    initial-same place (in_value_of item.name sight) scene before s inner k item.value _ _
    (append-is_nil_right (declared_faults place sight item.line item.name) _ one)
    (λ v fuel.
    items-same place (after_name sight item.name) scene before (with_named item.name v (record s { fuel = fuel })) items
    (item_agrees place sight scene (record s { fuel = fuel }) item v (fuelled place sight scene s fuel a) one)
    k more)
