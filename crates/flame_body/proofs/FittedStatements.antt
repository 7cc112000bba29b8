-- A C function without faults fits, with numbers in place of names.
use Rattle.std.proofs.Common.{◌≡◌, ℕ, List, [], ◌++◌, map, true, refl, ap, ◌∙◌}
use Rattle.std.specs.Prelude.{not, ◌&&◌, length, option_map, nat_lt, codes}
use Rattle.std.proofs.lemmas.Bool.{and_from}
use Rattle.flame_rows.proofs.Lists.{append-is_nil_left, append-is_nil_right}
use Rattle.flame_spec.specs.CheckFaults.{definition_faults}
use Rattle.flame_spec.specs.Definitions.{Definition}
use Rattle.flame_spec.specs.ExpressionFaults.{expression_faults, optional_faults}
use Rattle.flame_spec.specs.LookUps.{message_looped}
use Rattle.flame_spec.specs.Scopes.{Context, Sight, over_none, at_entry, in_scope, in_loop, after, after_all}
use Rattle.flame_spec.specs.Scopes.{after_parameters, messages_at, is_outside}
use Rattle.flame_spec.specs.StatementFaults.{parameters_faults, optional_assignment_faults, opened, start_faults}
use Rattle.flame_spec.specs.StatementFaults.{finish_faults, jump_faults}
use Rattle.flame_spec.specs.StatementFaults.{statement_faults, statements_faults, arms_faults}
use Rattle.flame_spec.specs.Trees.{Statement, empty, declare, assign, call, block, branch, while, for, do_while}
use Rattle.flame_spec.specs.Trees.{loop_over, return, break, continue}
use Rattle.flame_spec.specs.Trees.{Statements, no_more, also, Arms, no_arms, arm}
use Rattle.flame_spec.proofs.FaultTests.{fault_where-none}
use Rattle.flame_body.specs.declared.slots.SlotHead.{SlotHead}
use Rattle.flame_body.specs.declared.slots.SlotStmt.{Loop}
use Rattle.flame_body.specs.WordSlots.{deed_at}
use Rattle.flame_body.specs.NumberedTrees.{numbered, numbered_parts, numbered_assignment, numbered_items}
use Rattle.flame_body.specs.NumberedTrees.{numbered_statement, numbered_statements, numbered_arms}
use Rattle.flame_body.specs.FunctionBodies.{widths_in}
use Rattle.flame_body.specs.FitLaws.{unfiled, numbered_definition}
use Rattle.flame_body.specs.BodyFits.{Around, at_beginning, in_plain_loop, in_input_loop, is_inside, fits}
use Rattle.flame_body.specs.BodyFits.{optional_fits, step_fits}
use Rattle.flame_body.specs.BodyFits.{all_fit, statement_fits, tree_fits}
use Rattle.flame_body.proofs.FitForms.{fits-Empty, fits-Declare, fits-Assign, fits-Call, fits-Block, fits-If, arm_fits}
use Rattle.flame_body.proofs.FitForms.{fits-While, fits-For, fits-Do, fits-Loop}
use Rattle.flame_body.proofs.FitForms.{fits-Return, fits-Break, fits-Continue}
use Rattle.flame_body.proofs.FittedExpressions.{expression-fits}
use Rattle.flame_body.proofs.FittedCalls.{call-fits}
use Rattle.flame_body.proofs.FittedStored.{optional-fits, assignment-fits, step-fits, items-fit}
use Rattle.flame_body.proofs.KeptSuits.{Stands, loop-stands, stands-at-entry, stands-in-scope, stands-in-plain}
use Rattle.flame_body.proofs.KeptSuits.{stands-after-parameters, stands-after-items}

-- ---- what is seen after statements

-- after a statement
stands-after :
    (context : Context) (sight : Sight) (around : Around) (statement : Statement)
    → Stands context sight around
    → statement_faults context sight statement ≡ []
    → Stands context (after sight statement) around
stands-after context sight around (declare items) s none = stands-after-items context sight around items s none
stands-after context sight around statement s none = s

-- after statements
stands-after-all :
    (context : Context) (sight : Sight) (around : Around) (statements : Statements)
    → Stands context sight around
    → statements_faults context sight statements ≡ []
    → Stands context (after_all sight statements) around
stands-after-all context sight around no_more s none = s
stands-after-all context sight around (also statement statements) s none =
    let front = statement_faults context sight statement in
    let behind = statements_faults context (after sight statement) statements in
    stands-after-all context (after sight statement) around statements
    (stands-after context sight around statement s (append-is_nil_left front behind none))
    (append-is_nil_right front behind none)

-- `break` and `continue`
jump-fits :
    (context : Context) (sight : Sight) (around : Around) (line : ℕ) (keyword : List ℕ)
    → Stands context sight around
    → jump_faults context sight line keyword ≡ []
    → around.in_loop ≡ true
jump-fits context sight around line keyword s none =
    s.looped ∙ ap not (fault_where-none (is_outside sight.loops) context _ line keyword none)

-- ---- statements

mutual
  statement-fits :
      (context : Context) (sight : Sight) (around : Around) (statement : Statement)
      → Stands context sight around
      → statement_faults context sight statement ≡ []
      → statement_fits (numbered_statement (unfiled context) sight statement) around ≡ true
  statement-fits context sight around empty s none = fits-Empty around
  statement-fits context sight around (declare items) s none =
      fits-Declare around (numbered_items (unfiled context) sight items)
      ∙ items-fit context sight around items s.suits none
  statement-fits context sight around (assign a) s none =
      fits-Assign around (numbered_assignment (unfiled context) sight a)
      ∙ assignment-fits context sight around a s.suits none
  statement-fits context sight around (call line word arguments) s none =
      fits-Call around (deed_at (unfiled context) line word) (numbered_parts (unfiled context) sight arguments)
      ∙ call-fits context sight around line word arguments s.suits none
  statement-fits context sight around (block body) s none =
      fits-Block around (numbered_statements (unfiled context) (in_scope sight) body)
      ∙ statements-fit context (in_scope sight) around body (stands-in-scope context sight around s) none
  statement-fits context sight around (branch arms otherwise) s none =
      let front = arms_faults context sight arms in
      let behind = statements_faults context (in_scope sight) otherwise in
      fits-If around (numbered_arms (unfiled context) sight arms)
      (numbered_statements (unfiled context) (in_scope sight) otherwise)
      ∙ and_from (all_fit around (map arm_fits (numbered_arms (unfiled context) sight arms)))
      (all_fit around (map statement_fits (numbered_statements (unfiled context) (in_scope sight) otherwise)))
      (arms-fit context sight around arms s (append-is_nil_left front behind none))
      (statements-fit context (in_scope sight) around otherwise (stands-in-scope context sight around s)
      (append-is_nil_right front behind none))
  statement-fits context sight around (while line test body) s none =
      let front = expression_faults context sight test in
      let behind = statements_faults context (in_loop over_none sight) body in
      let inner = numbered_statements (unfiled context) (in_loop over_none sight) body in
      fits-While around line (numbered (unfiled context) sight test) inner
      ∙ and_from (fits around (numbered (unfiled context) sight test))
      (all_fit (in_plain_loop around) (map statement_fits inner))
      (expression-fits context sight around test s.suits (append-is_nil_left front behind none))
      (statements-fit context (in_loop over_none sight) (in_plain_loop around) body
      (stands-in-plain context sight around s) (append-is_nil_right front behind none))
  statement-fits context sight around (for line first test step body) s none =
      let start = statements_faults context (in_scope sight) first in
      let seen = after_all (in_scope sight) first in
      let tests = optional_faults context seen test in
      let steps = optional_assignment_faults context seen step in
      let bodies = statements_faults context (in_loop over_none seen) body in
      let front = append-is_nil_left (start ++ tests ++ steps) bodies none in
      let before = append-is_nil_left (start ++ tests) steps front in
      let clean = append-is_nil_left start tests before in
      let inside = stands-in-scope context sight around s in
      let behind = stands-after-all context (in_scope sight) around first inside clean in
      let inner = numbered_statements (unfiled context) (in_loop over_none seen) body in
      let begun = all_fit around (map statement_fits (numbered_statements (unfiled context) (in_scope sight) first)) in
      let tested = optional_fits around (option_map (numbered (unfiled context) seen) test) in
      let stepped = step_fits around (option_map (numbered_assignment (unfiled context) seen) step) in
      let head : SlotHead = record {
        first = numbered_statements (unfiled context) (in_scope sight) first;
        test = option_map (numbered (unfiled context) seen) test;
        step = option_map (numbered_assignment (unfiled context) seen) step;
      } in
      fits-For around line head inner
      ∙ and_from (begun && tested && stepped) (all_fit (in_plain_loop around) (map statement_fits inner))
      (and_from (begun && tested) stepped
      (and_from begun tested
      (statements-fit context (in_scope sight) around first inside clean)
      (optional-fits context seen around test behind.suits (append-is_nil_right start tests before)))
      (step-fits context seen around step behind.suits (append-is_nil_right (start ++ tests) steps front)))
      (statements-fit context (in_loop over_none seen) (in_plain_loop around) body
      (stands-in-plain context seen around behind) (append-is_nil_right (start ++ tests ++ steps) bodies none))
  statement-fits context sight around (do_while line body test) s none =
      let front = statements_faults context (in_loop over_none sight) body in
      let behind = expression_faults context sight test in
      let inner = numbered_statements (unfiled context) (in_loop over_none sight) body in
      fits-Do around line inner (numbered (unfiled context) sight test)
      ∙ and_from (all_fit (in_plain_loop around) (map statement_fits inner))
      (fits around (numbered (unfiled context) sight test))
      (statements-fit context (in_loop over_none sight) (in_plain_loop around) body
      (stands-in-plain context sight around s) (append-is_nil_left front behind none))
      (expression-fits context sight around test s.suits (append-is_nil_right front behind none))
  statement-fits context sight around (loop_over line word body end_line end_word) s none =
      let found = message_looped (messages_at context) word in
      let start = start_faults context sight found line word in
      let bodies = statements_faults context (in_loop (opened found) sight) body in
      let finish = finish_faults context word end_line end_word in
      let front = append-is_nil_left (start ++ bodies) finish none in
      let loop = loop-stands context sight around found line word s (append-is_nil_left start bodies front) in
      let inner = numbered_statements (unfiled context) (in_loop (opened found) sight) body in
      let there = nat_lt loop.number (length around.widths.inputs) in
      let apart = not (is_inside loop.number around) in
      ap (λ number. statement_fits (Loop line number inner) around) loop.is
      ∙ fits-Loop around line loop.number inner
      ∙ and_from (there && apart) (all_fit (in_input_loop loop.number around) (map statement_fits inner))
      (and_from there apart loop.within (ap not loop.outside))
      (statements-fit context (in_loop (opened found) sight) (in_input_loop loop.number around) body loop.stands
      (append-is_nil_right start bodies front))
  statement-fits context sight around (return e) s none =
      fits-Return around (numbered (unfiled context) sight e) ∙ expression-fits context sight around e s.suits none
  statement-fits context sight around (break line) s none =
      fits-Break around ∙ jump-fits context sight around line (codes "break") s none
  statement-fits context sight around (continue line) s none =
      fits-Continue around ∙ jump-fits context sight around line (codes "continue") s none

  statements-fit :
      (context : Context) (sight : Sight) (around : Around) (statements : Statements)
      → Stands context sight around
      → statements_faults context sight statements ≡ []
      → all_fit around (map statement_fits (numbered_statements (unfiled context) sight statements)) ≡ true
  statements-fit context sight around no_more s none = refl
  statements-fit context sight around (also statement statements) s none =
      let front = statement_faults context sight statement in
      let behind = statements_faults context (after sight statement) statements in
      and_from (statement_fits (numbered_statement (unfiled context) sight statement) around)
      (all_fit around (map statement_fits (numbered_statements (unfiled context) (after sight statement) statements)))
      (statement-fits context sight around statement s (append-is_nil_left front behind none))
      (statements-fit context (after sight statement) around statements
      (stands-after context sight around statement s (append-is_nil_left front behind none))
      (append-is_nil_right front behind none))

  arms-fit :
      (context : Context) (sight : Sight) (around : Around) (arms : Arms)
      → Stands context sight around
      → arms_faults context sight arms ≡ []
      → all_fit around (map arm_fits (numbered_arms (unfiled context) sight arms)) ≡ true
  arms-fit context sight around no_arms s none = refl
  arms-fit context sight around (arm test body arms) s none =
      let tests = expression_faults context sight test in
      let bodies = statements_faults context (in_scope sight) body in
      let others = arms_faults context sight arms in
      let front = append-is_nil_left (tests ++ bodies) others none in
      let inner = all_fit around (map statement_fits (numbered_statements (unfiled context) (in_scope sight) body)) in
      and_from (fits around (numbered (unfiled context) sight test) && inner)
      (all_fit around (map arm_fits (numbered_arms (unfiled context) sight arms)))
      (and_from (fits around (numbered (unfiled context) sight test)) inner
      (expression-fits context sight around test s.suits (append-is_nil_left tests bodies front))
      (statements-fit context (in_scope sight) around body (stands-in-scope context sight around s)
      (append-is_nil_right tests bodies front)))
      (arms-fit context sight around arms s (append-is_nil_right (tests ++ bodies) others none))

-- a C function
pub definition-fits :
    (context : Context) (d : Definition)
    → definition_faults context d ≡ []
    → tree_fits (widths_in context.model context.runs) (numbered_definition context d) ≡ true
definition-fits context d none =
    let front = parameters_faults context at_entry d.parameters in
    let behind = statements_faults context (after_parameters at_entry d.parameters) d.body in
    let around = at_beginning (widths_in context.model context.runs) in
    statements-fit context (after_parameters at_entry d.parameters) around d.body
    (stands-after-parameters context at_entry around d.parameters (stands-at-entry context)
    (append-is_nil_left front behind none))
    (append-is_nil_right front behind none)
