-- The calls of helpers in a C function without faults are those of its source, and have as many arguments as the helpers
-- take.
use Rattle.std.proofs.Common.{◌≡◌, ℕ, List, [], ◌∷◌, ◌++◌, map, Bool, Option, Some, None, true, false, refl, sym, ap, ◌∙◌, arith}
use Rattle.std.specs.Prelude.{◌==◌, ◌&&◌, ◌||◌, length, slice_get, option_map}
use Rattle.std.specs.List.{list_all}
use Rattle.std.specs.Option.{option_map_or}
use Rattle.std.specs.Str.{bytes_eq}
use Rattle.std.proofs.lemmas.Bool.Decides.{Decides-eqb}
use Rattle.std.proofs.lemmas.Bool.{and_from}
use Rattle.flame_rows.proofs.Lists.{append-is_nil_left, append-is_nil_right}
use Rattle.flame_spec.specs.declared.models.AgentType.{AgentType}
use Rattle.flame_spec.specs.declared.models.MessageType.{MessageType}
use Rattle.flame_spec.specs.declared.models.Variable.{Variable}
use Rattle.flame_spec.specs.CallFaults.{Deed, sends, bears, calls, set_or_else, sent_or_else, born_or_called, added_in}
use Rattle.flame_spec.specs.CallFaults.{called_by}
use Rattle.flame_spec.specs.CallFaults.{deed_faults, call_faults}
use Rattle.flame_spec.specs.CheckFaults.{definition_faults}
use Rattle.flame_spec.specs.Definitions.{Definition, helper_named, takes}
use Rattle.flame_spec.specs.ExpressionFaults.{expression_faults, optional_faults, unknown_faults, fault_where}
use Rattle.flame_spec.specs.Functions.{Place}
use Rattle.flame_spec.specs.HelperFaults.{is_call_of, stored_calls, optional_calls, items_call, step_calls}
use Rattle.flame_spec.specs.HelperFaults.{statement_calls, statements_call, arms_call}
use Rattle.flame_spec.specs.LookUps.{memory_set, message_sent, agent_born, message_looped}
use Rattle.flame_spec.specs.Scopes.{Context, Sight, over_none, at_entry, in_scope, in_loop, in_value_of, after}
use Rattle.flame_spec.specs.Scopes.{after_all, after_name, after_parameters}
use Rattle.flame_spec.specs.Scopes.{memory_at, messages_at}
use Rattle.flame_spec.specs.StatementFaults.{stored_faults, is_read_only, subscript_faults, assignment_faults}
use Rattle.flame_spec.specs.StatementFaults.{optional_assignment_faults}
use Rattle.flame_spec.specs.StatementFaults.{optional_stored_faults, declared_faults, item_faults, items_faults}
use Rattle.flame_spec.specs.StatementFaults.{parameters_faults}
use Rattle.flame_spec.specs.StatementFaults.{opened, start_faults, finish_faults, statement_faults, statements_faults}
use Rattle.flame_spec.specs.StatementFaults.{arms_faults}
use Rattle.flame_spec.specs.Trees.{Expressions, Stored, plain, called, Assigned, Declared}
use Rattle.flame_spec.specs.Trees.{Statement, empty, declare, assign, call, block, branch, while, for, do_while}
use Rattle.flame_spec.specs.Trees.{loop_over, return, break, continue}
use Rattle.flame_spec.specs.Trees.{Statements, no_more, also, Arms, no_arms, arm}
use Rattle.flame_body.specs.declared.slots.SlotItem.{SlotItem}
use Rattle.flame_body.specs.declared.slots.SlotHead.{SlotHead}
use Rattle.flame_body.specs.WordSlots.{deed_slot, deed_at, number_found, input_looped}
use Rattle.flame_body.specs.NumberedTrees.{numbered, numbered_parts, numbered_stored, numbered_assignment}
use Rattle.flame_body.specs.NumberedTrees.{numbered_items}
use Rattle.flame_body.specs.NumberedTrees.{numbered_statement, numbered_statements, numbered_arms}
use Rattle.flame_body.specs.FitLaws.{unfiled, numbered_definition, CalledPass}
use Rattle.flame_body.specs.BodyCalls.{deed_calls_pass, stored_calls_pass, initial_calls_pass, step_calls_pass}
use Rattle.flame_body.specs.BodyCalls.{all_calls_pass, statement_calls_pass, tree_calls_pass, tree_calls_fit}
use Rattle.flame_body.proofs.CallForms.{calls-Empty, calls-Declare, calls-Assign, calls-Call, calls-Block}
use Rattle.flame_body.proofs.CallForms.{arm_calls_pass, calls-If, calls-While, calls-For, calls-Do, calls-Loop}
use Rattle.flame_body.proofs.CallForms.{calls-Return, calls-Break, calls-Continue}
use Rattle.flame_body.proofs.Columned.{numbered-at}
use Rattle.flame_body.proofs.FittedCalls.{deed-clean, row-at, numbered-count}

-- of the helpers whose numbers are among those that are called, the numbers and how many parameters they have pass
abbrev Pass : (ℕ → ℕ → Bool) → Context → (ℕ → Bool) → Type 0
Pass passes context is_called =
    (h : ℕ) (helper : Definition)
    → slice_get context.helpers h ≡ Some helper
    → is_called h ≡ true
    → passes h (length helper.parameters) ≡ true

-- a part that comes first
first-part :
    (passes : ℕ → ℕ → Bool) (context : Context) (one two : ℕ → Bool)
    → Pass passes context (λ h. one h || two h)
    → Pass passes context one
first-part passes context one two pass h helper at is = pass h helper at (ap (λ b. b || two h) is)

-- a part that comes behind
last-part :
    (passes : ℕ → ℕ → Bool) (context : Context) (one two : ℕ → Bool)
    → Pass passes context (λ h. one h || two h)
    → Pass passes context two
last-part passes context one two pass h helper at is = pass h helper at (by_one (one h))
  where
    by_one : (b : Bool) → (b || two h) ≡ true
    by_one true = refl
    by_one false = is

module _ (passes : ℕ → ℕ → Bool) where
  -- ---- calls

  -- a call of a helper that was found
  helper-call :
      (context : Context) (sight : Sight) (h : ℕ × Definition) (line : ℕ) (word : List ℕ) (arguments : Expressions)
      → helper_named context.helpers word ≡ Some h
      → Pass passes context (λ n. is_call_of n (called_by (Some h)))
      → deed_faults context sight (called_by (Some h)) line word arguments ≡ []
      → passes h.0 (length (numbered_parts (unfiled context) sight arguments)) ≡ true
  helper-call context sight h line word arguments is pass none =
      let clean = deed-clean context sight (calls h.0 h.1) line word arguments none in
      let at = numbered-at (λ d. bytes_eq d.name word) 0 context.helpers h.0 h.1 is in
      let number : at.place ≡ h.0 = omega (arith, at.number) in
      let there : slice_get context.helpers h.0 ≡ Some h.1 = ap (slice_get context.helpers) (sym number) ∙ at.there in
      ap (passes h.0) (numbered-count (unfiled context) sight arguments ∙ clean.counted)
      ∙ pass h.0 h.1 there ((Decides-eqb h.0 h.0).1 refl)

  -- a call as a value
  value-call :
      (context : Context) (sight : Sight) (found : Option (ℕ × Definition)) (line : ℕ) (word : List ℕ)
      (arguments : Expressions)
      → helper_named context.helpers word ≡ found
      → Pass passes context (λ n. is_call_of n (called_by found))
      → deed_faults context sight (called_by found) line word arguments ≡ []
      → passes (number_found found) (length (numbered_parts (unfiled context) sight arguments)) ≡ true
  value-call context sight None line word arguments is pass none = absurd (cc)
  value-call context sight (Some h) line word arguments is pass none =
      helper-call context sight h line word arguments is pass none

  -- a call statement
  call-counted :
      (context : Context) (sight : Sight) (line : ℕ) (word : List ℕ) (arguments : Expressions)
      → Pass passes context (λ n. statement_calls context n (call line word arguments))
      → call_faults context sight line word arguments ≡ []
      → deed_calls_pass passes (deed_at (unfiled context) line word)
      (numbered_parts (unfiled context) sight arguments) ≡ true
  call-counted context sight line word arguments pass none = by_set (memory_set (memory_at context) word) pass none
    where
      Clean : Option Deed → Type 0
      Clean deed = deed_faults context sight deed line word arguments ≡ []

      Called : Option Deed → Type 0
      Called deed = Pass passes context (λ n. is_call_of n deed)

      Fitted : Option Deed → Type 0
      Fitted deed =
          deed_calls_pass passes (deed_slot line deed) (numbered_parts (unfiled context) sight arguments)
          ≡ true

      by_called :
          (found : Option (ℕ × Definition))
          → helper_named context.helpers word ≡ found
          → Called (called_by found)
          → Clean (called_by found)
          → Fitted (called_by found)
      by_called None is pass none = absurd (cc)
      by_called (Some h) is pass none = helper-call context sight h line word arguments is pass none

      by_runs_born :
          (runs : Option Place) (type : ℕ × AgentType)
          → Clean (added_in runs (bears type.0 type.1))
          → Fitted (added_in runs (bears type.0 type.1))
      by_runs_born None type none = absurd (cc)
      by_runs_born (Some place) type none = refl

      by_runs_sent :
          (runs : Option Place) (m : ℕ × MessageType)
          → Clean (added_in runs (sends m.0 m.1))
          → Fitted (added_in runs (sends m.0 m.1))
      by_runs_sent None m none = absurd (cc)
      by_runs_sent (Some place) m none = refl

      by_born :
          (found : Option (ℕ × AgentType))
          → Called (born_or_called context found word)
          → Clean (born_or_called context found word)
          → Fitted (born_or_called (unfiled context) found word)
      by_born (Some type) pass none = by_runs_born context.runs type none
      by_born None pass none = by_called (helper_named context.helpers word) refl pass none

      by_sent :
          (found : Option (ℕ × MessageType))
          → Called (sent_or_else context found word)
          → Clean (sent_or_else context found word)
          → Fitted (sent_or_else (unfiled context) found word)
      by_sent (Some m) pass none = by_runs_sent context.runs m none
      by_sent None pass none = by_born (agent_born context.model.agents word) pass none

      by_set :
          (found : Option (ℕ × Variable))
          → Called (set_or_else context found word)
          → Clean (set_or_else context found word)
          → Fitted (set_or_else (unfiled context) found word)
      by_set (Some v) pass none = refl
      by_set None pass none = by_sent (message_sent context.model.messages word) pass none

  -- ---- what is stored

  -- what is stored
  stored-counted :
      (context : Context) (sight : Sight) (stored : Stored)
      → Pass passes context (λ n. stored_calls context n stored)
      → stored_faults context sight stored ≡ []
      → stored_calls_pass passes (numbered_stored (unfiled context) sight stored) ≡ true
  stored-counted context sight (plain e) pass none = refl
  stored-counted context sight (called line word arguments) pass none =
      value-call context sight (helper_named context.helpers word) line word arguments refl pass none

  -- what a local begins with, if it does
  initial-counted :
      (context : Context) (sight : Sight) (value : Option Stored)
      → Pass passes context (λ n. optional_calls context n value)
      → optional_stored_faults context sight value ≡ []
      → initial_calls_pass passes (option_map (numbered_stored (unfiled context) sight) value) ≡ true
  initial-counted context sight None pass none = refl
  initial-counted context sight (Some stored) pass none = stored-counted context sight stored pass none

  -- an assignment
  assignment-counted :
      (context : Context) (sight : Sight) (a : Assigned)
      → Pass passes context (λ n. stored_calls context n a.value)
      → assignment_faults context sight a ≡ []
      → stored_calls_pass passes (numbered_stored (unfiled context) sight a.value) ≡ true
  assignment-counted context sight a pass none =
      stored-counted context sight a.value pass
      (append-is_nil_right
      (unknown_faults context sight a.line a.name
      ++ fault_where (is_read_only context a.name) context _ a.line a.name
      ++ subscript_faults context sight a.line a.name a.subscript)
      (stored_faults context sight a.value) none)

  -- an assignment that may be missing
  step-counted :
      (context : Context) (sight : Sight) (step : Option Assigned)
      → Pass passes context (λ n. step_calls context n step)
      → optional_assignment_faults context sight step ≡ []
      → step_calls_pass passes (option_map (numbered_assignment (unfiled context) sight) step) ≡ true
  step-counted context sight None pass none = refl
  step-counted context sight (Some a) pass none = assignment-counted context sight a pass none

  -- the items of a declaration
  items-counted :
      (context : Context) (sight : Sight) (items : List Declared)
      → Pass passes context (λ n. items_call context n items)
      → items_faults context sight items ≡ []
      → list_all (λ (item : SlotItem). initial_calls_pass passes item.value)
      (numbered_items (unfiled context) sight items) ≡ true
  items-counted context sight [] pass none = refl
  items-counted context sight (item ∷ items) pass none =
      let one = λ (n : ℕ). optional_calls context n item.value in
      let more = λ (n : ℕ). items_call context n items in
      let name = declared_faults context sight item.line item.name in
      let value = optional_stored_faults context (in_value_of item.name sight) item.value in
      let behind = items_faults context (after_name sight item.name) items in
      and_from
      (initial_calls_pass passes
      (option_map (numbered_stored (unfiled context) (in_value_of item.name sight)) item.value))
      (list_all (λ (i : SlotItem). initial_calls_pass passes i.value)
      (numbered_items (unfiled context) (after_name sight item.name) items))
      (initial-counted context (in_value_of item.name sight) item.value (first-part passes context one more pass)
      (append-is_nil_right name value (append-is_nil_left (item_faults context sight item) behind none)))
      (items-counted context (after_name sight item.name) items (last-part passes context one more pass)
      (append-is_nil_right (item_faults context sight item) behind none))

  -- ---- statements

  mutual
    statement-counted :
        (context : Context) (sight : Sight) (statement : Statement)
        → Pass passes context (λ n. statement_calls context n statement)
        → statement_faults context sight statement ≡ []
        → statement_calls_pass passes (numbered_statement (unfiled context) sight statement) ≡ true
    statement-counted context sight empty pass none = calls-Empty passes
    statement-counted context sight (declare items) pass none =
        calls-Declare passes (numbered_items (unfiled context) sight items)
        ∙ items-counted context sight items pass none
    statement-counted context sight (assign a) pass none =
        calls-Assign passes (numbered_assignment (unfiled context) sight a)
        ∙ assignment-counted context sight a pass none
    statement-counted context sight (call line word arguments) pass none =
        calls-Call passes (deed_at (unfiled context) line word)
        (numbered_parts (unfiled context) sight arguments)
        ∙ call-counted context sight line word arguments pass none
    statement-counted context sight (block body) pass none =
        calls-Block passes (numbered_statements (unfiled context) (in_scope sight) body)
        ∙ statements-counted context (in_scope sight) body pass none
    statement-counted context sight (branch arms otherwise) pass none =
        let one = λ (n : ℕ). arms_call context n arms in
        let two = λ (n : ℕ). statements_call context n otherwise in
        let front = arms_faults context sight arms in
        let behind = statements_faults context (in_scope sight) otherwise in
        let after_all_tests = numbered_statements (unfiled context) (in_scope sight) otherwise in
        calls-If passes (numbered_arms (unfiled context) sight arms) after_all_tests
        ∙ and_from (all_calls_pass (map (arm_calls_pass passes) (numbered_arms (unfiled context) sight arms)))
        (tree_calls_pass passes after_all_tests)
        (arms-counted context sight arms (first-part passes context one two pass) (append-is_nil_left front behind none))
        (statements-counted context (in_scope sight) otherwise (last-part passes context one two pass)
        (append-is_nil_right front behind none))
    statement-counted context sight (while line test body) pass none =
        calls-While passes line (numbered (unfiled context) sight test)
        (numbered_statements (unfiled context) (in_loop over_none sight) body)
        ∙ statements-counted context (in_loop over_none sight) body pass
        (append-is_nil_right (expression_faults context sight test) (statements_faults context (in_loop over_none sight) body)
        none)
    statement-counted context sight (for line first test step body) pass none =
        let one = λ (n : ℕ). statements_call context n first in
        let two = λ (n : ℕ). step_calls context n step in
        let three = λ (n : ℕ). statements_call context n body in
        let begins = first-part passes context (λ n. one n || two n) three pass in
        let start = statements_faults context (in_scope sight) first in
        let seen = after_all (in_scope sight) first in
        let tests = optional_faults context seen test in
        let steps = optional_assignment_faults context seen step in
        let bodies = statements_faults context (in_loop over_none seen) body in
        let front = append-is_nil_left (start ++ tests ++ steps) bodies none in
        let inner = numbered_statements (unfiled context) (in_loop over_none seen) body in
        let begun = tree_calls_pass passes (numbered_statements (unfiled context) (in_scope sight) first) in
        let stepped = step_calls_pass passes (option_map (numbered_assignment (unfiled context) seen) step) in
        let head : SlotHead = record {
          first = numbered_statements (unfiled context) (in_scope sight) first;
          test = option_map (numbered (unfiled context) seen) test;
          step = option_map (numbered_assignment (unfiled context) seen) step;
        } in
        calls-For passes line head inner
        ∙ and_from (begun && stepped) (tree_calls_pass passes inner)
        (and_from begun stepped
        (statements-counted context (in_scope sight) first (first-part passes context one two begins)
        (append-is_nil_left start tests (append-is_nil_left (start ++ tests) steps front)))
        (step-counted context seen step (last-part passes context one two begins) (append-is_nil_right (start ++ tests) steps front)))
        (statements-counted context (in_loop over_none seen) body
        (last-part passes context (λ n. one n || two n) three pass)
        (append-is_nil_right (start ++ tests ++ steps) bodies none))
    statement-counted context sight (do_while line body test) pass none =
        calls-Do passes line (numbered_statements (unfiled context) (in_loop over_none sight) body)
        (numbered (unfiled context) sight test)
        ∙ statements-counted context (in_loop over_none sight) body pass
        (append-is_nil_left (statements_faults context (in_loop over_none sight) body) (expression_faults context sight test) none)
    statement-counted context sight (loop_over line word body end_line end_word) pass none =
        let found = message_looped (messages_at context) word in
        let start = start_faults context sight found line word in
        let bodies = statements_faults context (in_loop (opened found) sight) body in
        let finish = finish_faults context word end_line end_word in
        calls-Loop passes line (input_looped (unfiled context) word)
        (numbered_statements (unfiled context) (in_loop (opened found) sight) body)
        ∙ statements-counted context (in_loop (opened found) sight) body pass
        (append-is_nil_right start bodies (append-is_nil_left (start ++ bodies) finish none))
    statement-counted context sight (return e) pass none =
        calls-Return passes (numbered (unfiled context) sight e)
    statement-counted context sight (break line) pass none = calls-Break passes
    statement-counted context sight (continue line) pass none = calls-Continue passes

    statements-counted :
        (context : Context) (sight : Sight) (statements : Statements)
        → Pass passes context (λ n. statements_call context n statements)
        → statements_faults context sight statements ≡ []
        → tree_calls_pass passes (numbered_statements (unfiled context) sight statements) ≡ true
    statements-counted context sight no_more pass none = refl
    statements-counted context sight (also statement statements) pass none =
        let one = λ (n : ℕ). statement_calls context n statement in
        let two = λ (n : ℕ). statements_call context n statements in
        let front = statement_faults context sight statement in
        let behind = statements_faults context (after sight statement) statements in
        and_from (statement_calls_pass passes (numbered_statement (unfiled context) sight statement))
        (tree_calls_pass passes (numbered_statements (unfiled context) (after sight statement) statements))
        (statement-counted context sight statement (first-part passes context one two pass)
        (append-is_nil_left front behind none))
        (statements-counted context (after sight statement) statements (last-part passes context one two pass)
        (append-is_nil_right front behind none))

    arms-counted :
        (context : Context) (sight : Sight) (arms : Arms)
        → Pass passes context (λ n. arms_call context n arms)
        → arms_faults context sight arms ≡ []
        → all_calls_pass (map (arm_calls_pass passes) (numbered_arms (unfiled context) sight arms)) ≡ true
    arms-counted context sight no_arms pass none = refl
    arms-counted context sight (arm test body arms) pass none =
        let one = λ (n : ℕ). statements_call context n body in
        let two = λ (n : ℕ). arms_call context n arms in
        let tests = expression_faults context sight test in
        let bodies = statements_faults context (in_scope sight) body in
        let others = arms_faults context sight arms in
        and_from (tree_calls_pass passes (numbered_statements (unfiled context) (in_scope sight) body))
        (all_calls_pass (map (arm_calls_pass passes) (numbered_arms (unfiled context) sight arms)))
        (statements-counted context (in_scope sight) body (first-part passes context one two pass)
        (append-is_nil_right tests bodies (append-is_nil_left (tests ++ bodies) others none)))
        (arms-counted context sight arms (last-part passes context one two pass)
        (append-is_nil_right (tests ++ bodies) others none))

-- a C function
pub definition-pass :
    (passes : ℕ → ℕ → Bool) (context : Context) (d : Definition)
    → definition_faults context d ≡ []
    → CalledPass passes context d.body
    → tree_calls_pass passes (numbered_definition context d) ≡ true
definition-pass passes context d none pass =
    statements-counted passes context (after_parameters at_entry d.parameters) d.body pass
    (append-is_nil_right (parameters_faults context at_entry d.parameters)
    (statements_faults context (after_parameters at_entry d.parameters) d.body) none)

-- the number of its parameters is that of the helper
count-there :
    (helpers : List Definition) (h : ℕ) (helper : Definition)
    → slice_get helpers h ≡ Some helper
    → takes (map (λ d. length d.parameters) helpers) h (length helper.parameters) ≡ true
count-there helpers h helper at =
    ap (λ count. option_map_or (λ n. n == length helper.parameters) count false)
    (row-at (λ (d : Definition). length d.parameters) helpers h helper at)
    ∙ (Decides-eqb (length helper.parameters) (length helper.parameters)).1 refl

-- its calls have as many arguments as the helpers have parameters
pub definition-counted :
    (context : Context) (d : Definition)
    → definition_faults context d ≡ []
    → tree_calls_fit (map (λ h. length h.parameters) context.helpers) (numbered_definition context d) ≡ true
definition-counted context d none =
    definition-pass (takes (map (λ h. length h.parameters) context.helpers)) context d none
    (λ h helper at is. count-there context.helpers h helper at)
