-- The code of statements comes to what the statements come to.
use Rattle.std.proofs.Common.{◌≡◌, ℕ, ◌+◌, Bool, true, not, ◌&&◌, List, [], ◌∷◌, ◌++◌, length, map, refl, sym, ap, subst, arith}
use Rattle.std.specs.Prelude.{slice_index_or, nat_lt}
use Rattle.std.specs.List.{list_all}
use Rattle.std.proofs.lemmas.Bool.{and_parts, not-true}
use Rattle.flame_body.specs.declared.slots.SlotItem.{SlotItem}
use Rattle.flame_body.specs.declared.slots.SlotStmt.{SlotStmt, Empty, Declare, Assign, Block, If, While, For, Do, Loop, Break, Continue, roll-SlotStmt, ind-SlotStmt, map-SlotStmt}
use Rattle.flame_body.specs.declared.slots.SlotStmt.TheVariants as stmt
use Rattle.flame_body.specs.declared.slots.SlotStmt.TheVariants.{rolls-Empty, rolls-Declare, rolls-Assign, rolls-Call, rolls-Block, rolls-If, rolls-While, rolls-For, rolls-Do, rolls-Loop, rolls-Return, rolls-Break, rolls-Continue}
use Rattle.flame_body.specs.declared.slots.SlotStmt.TheOpen.{SlotStmt-F}
use Rattle.flame_body.specs.declared.slots.SlotArm.{SlotArm}
use Rattle.flame_body.specs.declared.slots.SlotHead.{SlotHead}
use Rattle.flame_body.specs.BodyFits.{Around, fits, initial_fits, assignment_fits, deed_fits, optional_fits, step_fits, statement_fits, all_fit, in_plain_loop, in_input_loop, is_inside}
use Rattle.flame_body.proofs.FitForms.{arm_fits, fits-Declare, fits-Assign, fits-Call, fits-Block, fits-If, fits-While, fits-For, fits-Do, fits-Loop, fits-Return}
use Rattle.flame_code.specs.declared.instrs.Instr.TheVariants.{Jump, Return}
use Rattle.flame_code.specs.Machine.{act}
use Rattle.flame_code.specs.Meanings.{last}
use Rattle.flame_compile.specs.Pieces.{row, one, both, in_order, plain}
use Rattle.flame_compile.specs.Emit.{if_block, while_block, for_block, do_block, loop_block, break_block, continue_block, expression, arguments, item, assignment, deed, statements, arm, head}
use Rattle.flame_compile.proofs.Forms.{statement-Empty, statement-Declare, statement-Assign, statement-Call, statement-Block, statement-If, statement-While, statement-For, statement-Do, statement-Loop, statement-Return, statement-Break, statement-Continue}
use Rattle.flame_compile.proofs.SizedBlocks.{statements_sized}
use Rattle.flame_meaning.specs.Ends.{went_on, broke, continued, returned, with_value, with_values, on_to, as_scope}
use Rattle.flame_meaning.specs.Loops.{loop, turn}
use Rattle.flame_number_laws.specs.NumberedScenes.{standing_at}
use Rattle.flame_number_laws.specs.NumberedMeaning.{value_of, first_arm, scope, nothing, argument_numbers, declarations, done, assignment as assigned, each_row, run_of, runs_of, arm_of, test_value, step_of}
use Rattle.flame_number_laws.proofs.NumberedForms.{run-Empty, run-Declare, run-Assign, run-Call, run-Block, run-If, run-While, run-For, run-Do, run-Loop, run-Return, run-Break, run-Continue}
use Rattle.flame_code_laws.specs.FaithfulLaws.{StatementsRun}
use Rattle.flame_code_laws.specs.CodeRuns.{Running, at}
use Rattle.flame_code_laws.specs.NamedLocals.{names_below, all_below}
use Rattle.flame_code_laws.specs.LocalNumbers.{items_numbered, assignment_below, Numbering, all_add, all_suit, numbering}
use Rattle.flame_code_laws.proofs.NumberingForms.{arm_numbered, head_numbered, numbering-Empty, numbering-Declare, numbering-Assign, numbering-Call, numbering-Block, adds-If, suits-If, numbering-While, numbering-For, numbering-Do, numbering-Loop, numbering-Return, numbering-Break, numbering-Continue}
use Rattle.flame_code_laws.proofs.Going.{has_left, has_right, has_first, valued, performed}
use Rattle.flame_code_laws.proofs.FaithfulExpressions.{expression_does}
use Rattle.flame_code_laws.proofs.Comings.{alike_of, value_comes}
use Rattle.flame_code_laws.proofs.FaithfulStores.{comes_at, comes_with, arrived, items_come, assignment_comes}
use Rattle.flame_code_laws.proofs.FaithfulDeeds.{deed_comes}
use Rattle.flame_code_laws.proofs.FaithfulBlocks.{Holds, HoldsBody, HoldsArm, HoldsHead, bare, bare_arms, body_holds, scope_comes, by_form, by_none, if_comes}
use Rattle.flame_code_laws.proofs.FaithfulLoops.{while_comes, do_comes, for_comes, loop_comes}

module _ (run : Running) where
  -- ---- every statement

  -- a form with its parts alone
  abbrev firsts :
      SlotStmt-F ((x : SlotStmt) × Holds run x) ((a : SlotArm) × HoldsArm run a) ((h : SlotHead) × HoldsHead run h)
      → SlotStmt-F SlotStmt SlotArm SlotHead
  firsts =
      map-SlotStmt ((x : SlotStmt) × Holds run x) ((a : SlotArm) × HoldsArm run a) ((h : SlotHead) × HoldsHead run h)
      SlotStmt SlotArm SlotHead (λ x. x.0) (λ a. a.0) (λ h. h.0)

  -- each form does where its parts do
  layer_holds :
      (y : SlotStmt-F ((x : SlotStmt) × Holds run x) ((a : SlotArm) × HoldsArm run a) ((h : SlotHead) × HoldsHead run h))
      → Holds run (roll-SlotStmt (firsts y))
  layer_holds SlotStmt-F.Empty =
      subst (Holds run) (sym rolls-Empty)
      (by_none run Empty (plain (row [])) (statement_fits Empty) (λ n. true) (λ b t. went_on t) statement-Empty (λ around.
      refl)
      numbering-Empty run-Empty
      (λ f sound s c p follows has fit_it low_it.
      let end : p ≡ p + 0 = omega arith in
      comes_at run f sound (at p f.stack c) (length s.locals) p (p + 0) (went_on s) end
      (arrived run f sound s c (length s.locals) p follows refl)))
  layer_holds (SlotStmt-F.Declare items) =
      subst (Holds run) (sym (rolls-Declare items))
      (by_form run (Declare items) (plain (in_order (map item items)))
      (λ around. list_all (λ (i : SlotItem). initial_fits around i.value) items) (length items) (items_numbered items)
      (declarations items) (statement-Declare items) (λ around. fits-Declare around items)
      (ap (λ (k : Numbering). k.adds) (numbering-Declare items))
      (λ n. ap (λ (k : Numbering). k.suits n) (numbering-Declare items)) (run-Declare items)
      (λ f sound s c p follows has fit_it low_it. items_come run f sound items s c p follows fit_it low_it has))
  layer_holds (SlotStmt-F.Assign a) =
      subst (Holds run) (sym (rolls-Assign a))
      (by_none run (Assign a) (plain (assignment a)) (λ around. assignment_fits around a) (λ n. assignment_below n a)
      (assigned a) (statement-Assign a) (λ around. fits-Assign around a) (numbering-Assign a) (run-Assign a)
      (λ f sound s c p follows has fit_it low_it. assignment_comes run f sound a s c p follows fit_it low_it has))
  layer_holds (SlotStmt-F.Call d es) =
      subst (Holds run) (sym (rolls-Call d es))
      (by_none run (stmt.Call d es) (plain (both (arguments es) (deed d (length es)))) (λ around. deed_fits around d es)
      (λ n. all_below n es) (λ b t. with_values (argument_numbers es b t) (λ vs. done d vs b t)) (statement-Call d es)
      (λ around. fits-Call around d es) (numbering-Call d es) (run-Call d es)
      (λ f sound s c p follows has fit_it low_it. deed_comes run f sound d es s c p follows fit_it low_it has))
  layer_holds (SlotStmt-F.Block body) =
      let inner = bare run body in
      subst (Holds run) (sym (rolls-Block inner))
      (by_none run (stmt.Block inner) (statements inner) (λ around. all_fit around (map statement_fits inner))
      (all_suit (map numbering inner)) (scope (map run_of inner)) (statement-Block inner)
      (λ around. fits-Block around inner) (numbering-Block inner) (run-Block inner)
      (λ f sound s c p follows has fit_it low_it.
      (scope_comes run inner (body_holds run body) f sound s c p (length s.locals) follows refl has fit_it low_it).0))
  layer_holds (SlotStmt-F.If tests otherwise) =
      let arms = bare_arms run tests in
      let inner = bare run otherwise in
      subst (Holds run) (sym (rolls-If arms inner))
      (by_form run (If arms inner) (if_block (map arm arms) (statements inner))
      (λ around. all_fit around (map arm_fits arms) && all_fit around (map statement_fits inner)) 0
      (λ n. list_all (λ (x : ℕ → Bool). x n) (map arm_numbered arms) && all_suit (map numbering inner) n)
      (first_arm (map arm_of arms) (scope (map run_of inner))) (statement-If arms inner)
      (λ around. fits-If around arms inner) (adds-If arms inner) (suits-If arms inner) (run-If arms inner)
      (λ f sound s c p follows has fit_it low_it.
      let count : length s.locals ≡ length s.locals + 0 = omega arith in
      comes_with run f sound (at p f.stack c) (length s.locals) (length s.locals + 0)
      (p + length ((if_block (map arm arms) (statements inner)).code f.leave f.again p))
      (first_arm (map arm_of arms) (scope (map run_of inner)) f.before s) count
      (if_comes run tests inner (body_holds run otherwise) f sound s c p follows has fit_it low_it)))
  layer_holds (SlotStmt-F.While line test body) =
      let inner = bare run body in
      subst (Holds run) (sym (rolls-While line test inner))
      (by_none run (While line test inner) (while_block line (expression test) (statements inner))
      (λ around. fits around test && all_fit (in_plain_loop around) (map statement_fits inner))
      (λ n. names_below n test && all_suit (map numbering inner) n)
      (λ b t. loop line (value_of test b) (scope (map run_of inner) b) (nothing b) t) (statement-While line test inner)
      (λ around. fits-While around line test inner) (numbering-While line test inner) (run-While line test inner)
      (λ f sound s c p follows has fit_it low_it.
      while_comes run line test inner (body_holds run body) f sound s c p follows has fit_it low_it))
  layer_holds (SlotStmt-F.For line h body) =
      let inner = bare run body in
      let begin : Around → Bool = λ around. all_fit around (map statement_fits h.0.first) in
      let n_head : ℕ → Bool = λ n. head_numbered h.0 n in
      subst (Holds run) (sym (rolls-For line h.0 inner))
      (by_none run (For line h.0 inner) (for_block line (head h.0) (statements inner))
      (λ around. begin around && optional_fits around h.0.test && step_fits around h.0.step
      && all_fit (in_plain_loop around) (map statement_fits inner))
      (λ n. head_numbered h.0 n && all_suit (map numbering inner) (n + all_add (map numbering h.0.first)))
      (λ b t. as_scope (λ u.
      on_to (runs_of h.0.first b u)
      (loop line (test_value h.0.test b) (scope (map run_of inner) b) (step_of h.0.step b))) t)
      (statement-For line h.0 inner) (λ around. fits-For around line h.0 inner) (numbering-For line h.0 inner)
      (run-For line h.0 inner)
      (λ f sound s c p follows has fit_it low_it.
      let around = f.around in
      let parts = and_parts (begin around && optional_fits around h.0.test && step_fits around h.0.step)
      (all_fit (in_plain_loop around) (map statement_fits inner)) fit_it in
      let heads = and_parts (begin around && optional_fits around h.0.test) (step_fits around h.0.step) parts.0 in
      let two = and_parts (begin around) (optional_fits around h.0.test) heads.0 in
      let low = and_parts (head_numbered h.0 (length s.locals)) _ low_it in
      for_comes run line h.0 inner h.1 (body_holds run body) f sound s c p follows has two.0 two.1 heads.1 parts.1 low.0 low.1))
  layer_holds (SlotStmt-F.Do line body test) =
      let inner = bare run body in
      subst (Holds run) (sym (rolls-Do line inner test))
      (by_none run (Do line inner test) (do_block line (statements inner) (expression test))
      (λ around. all_fit (in_plain_loop around) (map statement_fits inner) && fits around test)
      (λ n. all_suit (map numbering inner) n && names_below n test)
      (λ b t. turn line (scope (map run_of inner) b) (loop line (value_of test b) (scope (map run_of inner) b) (nothing
      b)) t)
      (statement-Do line inner test) (λ around. fits-Do around line inner test) (numbering-Do line inner test)
      (run-Do line inner test)
      (λ f sound s c p follows has fit_it low_it.
      do_comes run line inner test (body_holds run body) f sound s c p follows has fit_it low_it))
  layer_holds (SlotStmt-F.Loop line input body) =
      let inner = bare run body in
      subst (Holds run) (sym (rolls-Loop line input inner))
      (by_none run (Loop line input inner) (loop_block line input (statements inner))
      (λ around. nat_lt input (length around.widths.inputs) && not (is_inside input around)
      && all_fit (in_input_loop input around) (map statement_fits inner))
      (all_suit (map numbering inner))
      (λ b t. each_row line (λ row. scope (map run_of inner) (standing_at input row b)) (slice_index_or b.readings input
      [])
      t) (statement-Loop line input inner) (λ around. fits-Loop around line input inner)
      (numbering-Loop line input inner) (run-Loop line input inner)
      (λ f sound s c p follows has fit_it low_it.
      let there = nat_lt input (length f.around.widths.inputs) in
      let parts = and_parts (there && not (is_inside input f.around)) _ fit_it in
      let starts = and_parts there (not (is_inside input f.around)) parts.0 in
      loop_comes run line input inner (body_holds run body) f sound s c p follows has starts.0
      (not-true (is_inside input f.around) starts.1) parts.1 low_it))
  layer_holds (SlotStmt-F.Return e) =
      subst (Holds run) (sym (rolls-Return e))
      (by_none run (stmt.Return e) (plain (both (expression e) (one Return))) (λ around. fits around e) (λ n. names_below n
      e)
      (λ b t. with_value (value_of e b t) (λ v. returned v t)) (statement-Return e) (λ around. fits-Return around e)
      (numbering-Return e) (run-Return e)
      (λ f sound s c p follows has fit_it low_it.
      let code = (expression e).code p in
      value_comes run f (at p f.stack c) (valued (p + length code) f.stack c) (length s.locals)
      (p + length (code ++ Return ∷ [])) (value_of e f.before s) (λ v. returned v s)
      ((expression_does run f.around f.before s c (alike_of run f s c sound follows) e).value p f.stack
      (has_left run p code (Return ∷ []) has) fit_it low_it)
      (λ v. record {
        there = at (p + length code) f.stack c;
        memory = follows.memory;
        sent = follows.sent;
        born = follows.born;
        fuel = follows.fuel;
        ends = last (ap (λ o. act run.given run.routine.widths o (at (p + length code) (v ∷ f.stack) c))
            (has_first run (p + length code) Return [] (has_right run p code (Return ∷ []) has)));
      })))
  layer_holds SlotStmt-F.Break =
      subst (Holds run) (sym rolls-Break)
      (by_none run Break break_block (statement_fits Break) (λ n. true) (λ b t. broke t) statement-Break (λ around. refl)
      numbering-Break run-Break
      (λ f sound s c p follows has fit_it low_it. record {
        there = c;
        follows = follows;
        leads = performed run (at p f.stack c) (at f.leave f.stack c) (Jump f.leave)
            (has_first run p (Jump f.leave) [] has) refl;
      }))
  layer_holds SlotStmt-F.Continue =
      subst (Holds run) (sym rolls-Continue)
      (by_none run Continue continue_block (statement_fits Continue) (λ n. true) (λ b t. continued t) statement-Continue
      (λ around. refl) numbering-Continue run-Continue
      (λ f sound s c p follows has fit_it low_it. record {
        there = c;
        follows = follows;
        leads = performed run (at p f.stack c) (at f.again f.stack c) (Jump f.again)
            (has_first run p (Jump f.again) [] has) refl;
      }))

  -- every statement does
  pub statement_holds : (x : SlotStmt) → Holds run x
  statement_holds =
      ind-SlotStmt (Holds run) (HoldsArm run) (HoldsHead run)
      (λ x y e. subst (λ z. Holds run (roll-SlotStmt z)) e (layer_holds y))
      (λ x y e. subst (HoldsBody run) (λ i. (e i).body) (body_holds run y.body))
      (λ x y e. subst (HoldsBody run) (λ i. (e i).first) (body_holds run y.first))

  -- statements with what holds of them
  abbrev paired : List SlotStmt → List ((x : SlotStmt) × Holds run x)
  paired body = map (λ x. (x, statement_holds x)) body

  -- without it they are the same
  paired_bare : (body : List SlotStmt) → bare run (paired body) ≡ body
  paired_bare [] = refl
  paired_bare (x ∷ body) = ap (λ xs. x ∷ xs) (paired_bare body)

  -- the statements of every body do
  pub statements_hold : (body : List SlotStmt) → HoldsBody run body
  statements_hold body = subst (HoldsBody run) (paired_bare body) (body_holds run (paired body))

-- the code of statements comes to what they come to
pub statements-run : StatementsRun
statements-run run f sound body s c p follows fit_all low_all has =
    comes_at run f sound (at p f.stack c) (length s.locals + all_add (map numbering body))
    (p + length ((statements body).code f.leave f.again p)) (p + (statements body).size) (runs_of body f.before s)
    (ap (λ n. p + n) (statements_sized body f.leave f.again p))
    (statements_hold run body f sound s c p follows has fit_all low_all)
