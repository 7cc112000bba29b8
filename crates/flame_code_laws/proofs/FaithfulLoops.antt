-- Blocks of code that come to what loops do.
use Rattle.std.proofs.Common.{◌≡◌, ℕ, ◌+◌, ◌<◌, ◌≤◌, true, false, ◌&&◌, List, [], ◌∷◌, ◌++◌, length, map, Option, Some, None, refl, sym, ap, ◌∙◌, subst, arith, length-append}
use Rattle.std.specs.Prelude.{ℤ, pos, slice_get, slice_index_or, option_map, nat_lt}
use Rattle.std.proofs.lemmas.Option.{slice_get-map, slice_get-get_or}
use Rattle.flame_spec.specs.declared.outcomes.Widths.{Widths}
use Rattle.flame_code.specs.Feeds.{Fed, with_come, at_start, at_next}
use Rattle.flame_code.specs.InputRows.{rows_of}
use Rattle.flame_code.proofs.InputMoves.{other-kept, rows-at_start}
use Rattle.std.proofs.lemmas.Bool.{and_parts, ltb-true}
use Rattle.flame_body.specs.declared.slots.SlotExpr.{SlotExpr}
use Rattle.flame_body.specs.declared.slots.SlotAssign.{SlotAssign}
use Rattle.flame_body.specs.declared.slots.SlotStmt.{SlotStmt}
use Rattle.flame_body.specs.declared.slots.SlotHead.{SlotHead}
use Rattle.flame_body.specs.BodyFits.{fits, optional_fits, step_fits, statement_fits, all_fit, in_plain_loop, in_input_loop, is_inside}
use Rattle.flame_code.specs.declared.instrs.Instr.TheVariants.{Push, Jump, JumpNotZero, Pay, Enter, Next, Leave}
use Rattle.flame_code.specs.Machine.{Config}
use Rattle.flame_compile.specs.Emit.{while_block, for_block, do_block, loop_block, expression, assignment, test_or_1, step_or_none, statements, head}
use Rattle.flame_compile.proofs.Sized.{expression_sized}
use Rattle.flame_compile.proofs.SizedBlocks.{test_sized, step_sized, statements_sized}
use Rattle.flame_meaning.specs.Scenes.{Progress}
use Rattle.flame_meaning.specs.Ends.{went_on, on_to, as_scope}
use Rattle.flame_meaning.specs.Loops.{loop, turn}
use Rattle.flame_number_laws.specs.NumberedScenes.{standing_at}
use Rattle.flame_number_laws.specs.NumberedMeaning.{value_of, scope, nothing, each_row, run_of, runs_of, test_value, step_of}
use Rattle.flame_code_laws.specs.CodeRuns.{Running, HasAt, at, Leads, Gives}
use Rattle.flame_code_laws.specs.NamedLocals.{names_below}
use Rattle.flame_code_laws.specs.LocalNumbers.{assignment_below, test_below, step_below, all_add, all_suit, numbering}
use Rattle.flame_code_laws.specs.Standings.{Frame, IsSound, Follows, Comes}
use Rattle.flame_code_laws.proofs.NumberingForms.{head_numbered}
use Rattle.flame_code_laws.proofs.Going.{has_left, has_right, has_first, has_rest, valued, performed}
use Rattle.flame_code_laws.proofs.FaithfulExpressions.{expression_does}
use Rattle.flame_code_laws.proofs.Comings.{alike_of, comes_led}
use Rattle.flame_code_laws.proofs.FaithfulStores.{comes_at, comes_with, comes_from, arrived, assignment_comes}
use Rattle.flame_code_laws.proofs.RowTurns.{changed_feed, come_to, rowed, feeds_follow, rows_come}
use Rattle.flame_code_laws.proofs.Turning.{scoped, inside, scoped_sound, inside_sound, reframed, left_comes, comes_then, comes_on, BodyComes, turn_comes, turns_come}
use Rattle.flame_code_laws.proofs.FaithfulBlocks.{HoldsBody, HoldsHead, scope_comes}

-- an input whose rows are listed is there, and begins with none that has come
start_by :
    (feeds : List Fed) (input : ℕ) (all : List (List ℤ)) (o : Option Fed)
    → slice_get feeds input ≡ o
    → option_map (λ (fed : Fed). fed.rows) o ≡ Some all
    → slice_get (at_start input feeds) input ≡ Some (come_to all 0)
start_by feeds input all None there is = absurd (let bad : None ≡ Some all = is in cc)
start_by feeds input all (Some fed) there is =
    let same : fed.rows ≡ all = (let found : Some fed.rows ≡ Some all = is in cc) in
    changed_feed (with_come 0) input feeds fed there ∙ ap (λ rows. Some (come_to rows 0)) same

start_found :
    (feeds : List Fed) (readings : List (List (List ℤ))) (input : ℕ) (all : List (List ℤ))
    → rows_of feeds ≡ readings
    → slice_get readings input ≡ Some all
    → slice_get (at_start input feeds) input ≡ Some (come_to all 0)
start_found feeds readings input all same listed =
    start_by feeds input all (slice_get feeds input) refl
    (sym (slice_get-map (λ (fed : Fed). fed.rows) feeds input)
    ∙ ap (λ rows. slice_get rows input) same ∙ listed)

module _ (run : Running) where
  -- ---- loops

  -- the body of a turn
  pub bodies_come :
      (body : List SlotStmt) → HoldsBody run body
      → (f : Frame) → IsSound run f → (e again n b : ℕ)
      → HasAt run (b + 1) ((statements body).code e again (b + 1))
      → all_fit (in_plain_loop f.around) (map statement_fits body) ≡ true
      → all_suit (map numbering body) n ≡ true
      → b + 1 + length ((statements body).code e again (b + 1)) ≡ again
      → BodyComes run f e again n b (scope (map run_of body) f.before)
  bodies_come body holds_body f sound e again n b has fit_all low_all end k t d less follows long =
      let g = inside e again n k f in
      let g_sound = inside_sound run f e again n k sound in
      let comes = scope_comes run body holds_body g g_sound t d (b + 1) n follows long has fit_all low_all in (
        comes_at run g g_sound (at (b + 1) f.stack d) n
            (b + 1 + length ((statements body).code e again (b + 1))) again (scope (map run_of body) f.before t) end
            comes.0,
        comes.1,
      )

  -- the test of a loop
  pub test_gives :
      (test : Option SlotExpr) (f : Frame) → IsSound run f → (n q : ℕ)
      → HasAt run q ((test_or_1 test).code q)
      → optional_fits f.around test ≡ true
      → test_below n test ≡ true
      → (t : Progress) (d : Config) → Follows f t d → length t.locals ≡ n
      → Gives run (at q f.stack d) (valued (q + length ((test_or_1 test).code q)) f.stack d)
      (test_value test f.before t)
  test_gives None f sound n q has fit_it low_it t d follows long =
      performed run (at q f.stack d) (at (q + 1) (pos 1 ∷ f.stack) d) (Push (pos 1)) (has_first run q (Push (pos 1)) []
      has)
      refl
  test_gives (Some e) f sound n q has fit_it low_it t d follows long =
      (expression_does run f.around f.before t d (alike_of run f t d sound follows) e).value q f.stack has fit_it
      (subst (λ k. names_below k e ≡ true) (sym long) low_it)

  -- the step of a loop
  pub step_comes :
      (step : Option SlotAssign) (f : Frame) → IsSound run f → (n q : ℕ)
      → HasAt run q ((step_or_none step).code q)
      → step_fits f.around step ≡ true
      → step_below n step ≡ true
      → (t : Progress) (d : Config) → Follows f t d → length t.locals ≡ n
      → Comes run f (at q f.stack d) n (q + length ((step_or_none step).code q)) (step_of step f.before t)
  step_comes None f sound n q has fit_it low_it t d follows long =
      let end : q ≡ q + 0 = omega arith in
      comes_at run f sound (at q f.stack d) n q (q + 0) (went_on t) end (arrived run f sound t d n q follows long)
  step_comes (Some a) f sound n q has fit_it low_it t d follows long =
      comes_with run f sound (at q f.stack d) (length t.locals) n (q + length ((assignment a).code q))
      (step_of (Some a) f.before t) long
      (assignment_comes run f sound a t d q follows fit_it
      (subst (λ k. assignment_below k a ≡ true) (sym long) low_it) has)

  -- `while`
  pub while_comes :
      (line : ℕ) (test : SlotExpr) (body : List SlotStmt) → HoldsBody run body
      → (f : Frame) → IsSound run f → (s : Progress) (c : Config) (p : ℕ)
      → Follows f s c
      → HasAt run p ((while_block line (expression test) (statements body)).code f.leave f.again p)
      → (fits f.around test && all_fit (in_plain_loop f.around) (map statement_fits body)) ≡ true
      → (names_below (length s.locals) test && all_suit (map numbering body) (length s.locals)) ≡ true
      → Comes run f (at p f.stack c) (length s.locals)
      (p + length ((while_block line (expression test) (statements body)).code f.leave f.again p))
      (loop line (value_of test f.before) (scope (map run_of body) f.before) (nothing f.before) s)
  while_comes line test body holds_body f sound s c p follows has fit_it low_it =
      let n = length s.locals in
      let b = p + 1 in
      let again = p + 2 + (statements body).size in
      let e = p + 3 + (statements body).size + (expression test).size in
      let inner = (statements body).code e again (b + 1) in
      let test_at = b + 1 + length inner in
      let tests = (expression test).code test_at in
      let jump = test_at + length tests in
      let rest = inner ++ (tests ++ JumpNotZero b ∷ []) in
      let fitting = and_parts (fits f.around test) _ fit_it in
      let low = and_parts (names_below n test) _ low_it in
      let inner_long : length inner ≡ (statements body).size = statements_sized body e again (b + 1) in
      let tests_long : length tests ≡ (expression test).size = expression_sized test test_at in
      let at_again : b + 1 + length inner ≡ again = omega (arith, inner_long) in
      let at_e : jump + 1 ≡ e = omega (arith, inner_long, tests_long) in
      let whole : e ≡ p + length (Jump again ∷ Pay line ∷ rest) =
      (let one_long = length-append inner (tests ++ JumpNotZero b ∷ []) in
      let two_long = length-append tests (JumpNotZero b ∷ []) in
      omega (arith, one_long, two_long, inner_long, tests_long)) in
      let has_pay = has_rest run p (Jump again) (Pay line ∷ rest) has in
      let has_inner = has_rest run b (Pay line) rest has_pay in
      let has_tests = has_right run (b + 1) inner (tests ++ JumpNotZero b ∷ []) has_inner in
      let done = loop line (value_of test f.before) (scope (map run_of body) f.before) (nothing f.before) s in
      comes_led run f (at p f.stack c) (at again f.stack c) n (p + length (Jump again ∷ Pay line ∷ rest)) done
      (performed run (at p f.stack c) (at again f.stack c) (Jump again) (has_first run p (Jump again) (Pay line ∷ rest)
      has)
      refl)
      (comes_at run f sound (at again f.stack c) n e (p + length (Jump again ∷ Pay line ∷ rest)) done whole
      (turns_come run f line n b e again again jump (value_of test f.before) (scope (map run_of body) f.before)
      (nothing f.before) follows.least (has_left run b (Pay line ∷ []) rest has_pay)
      (has_right run test_at tests (JumpNotZero b ∷ []) has_tests) at_e
      (λ t d there long.
      subst (λ k. Gives run (at k f.stack d) (valued jump f.stack d) (value_of test f.before t)) at_again
      (test_gives (Some test) f sound n test_at (has_left run test_at tests (JumpNotZero b ∷ []) has_tests) fitting.0
      low.0
      t d there long))
      (bodies_come body holds_body f sound e again n b (has_left run (b + 1) inner (tests ++ JumpNotZero b ∷ [])
      has_inner)
      fitting.1 low.1 at_again)
      (λ t d there long. arrived run (scoped n t.fuel f) (scoped_sound run f n t.fuel sound) t d n again there long)
      s.fuel s c follows refl (omega arith)))

  -- `do`
  pub do_comes :
      (line : ℕ) (body : List SlotStmt) (test : SlotExpr) → HoldsBody run body
      → (f : Frame) → IsSound run f → (s : Progress) (c : Config) (p : ℕ)
      → Follows f s c
      → HasAt run p ((do_block line (statements body) (expression test)).code f.leave f.again p)
      → (all_fit (in_plain_loop f.around) (map statement_fits body) && fits f.around test) ≡ true
      → (all_suit (map numbering body) (length s.locals) && names_below (length s.locals) test) ≡ true
      → Comes run f (at p f.stack c) (length s.locals)
      (p + length ((do_block line (statements body) (expression test)).code f.leave f.again p))
      (turn line (scope (map run_of body) f.before)
      (loop line (value_of test f.before) (scope (map run_of body) f.before) (nothing f.before)) s)
  do_comes line body test holds_body f sound s c p follows has fit_it low_it =
      let n = length s.locals in
      let again = p + 1 + (statements body).size in
      let e = p + 2 + (statements body).size + (expression test).size in
      let inner = (statements body).code e again (p + 1) in
      let test_at = p + 1 + length inner in
      let tests = (expression test).code test_at in
      let jump = test_at + length tests in
      let rest = inner ++ (tests ++ JumpNotZero p ∷ []) in
      let fitting = and_parts (all_fit (in_plain_loop f.around) (map statement_fits body)) _ fit_it in
      let low = and_parts (all_suit (map numbering body) n) _ low_it in
      let inner_long : length inner ≡ (statements body).size = statements_sized body e again (p + 1) in
      let tests_long : length tests ≡ (expression test).size = expression_sized test test_at in
      let at_again : p + 1 + length inner ≡ again = omega (arith, inner_long) in
      let at_e : jump + 1 ≡ e = omega (arith, inner_long, tests_long) in
      let whole : e ≡ p + length (Pay line ∷ rest) =
      (let one_long = length-append inner (tests ++ JumpNotZero p ∷ []) in
      let two_long = length-append tests (JumpNotZero p ∷ []) in
      omega (arith, one_long, two_long, inner_long, tests_long)) in
      let has_pay = has_left run p (Pay line ∷ []) rest has in
      let has_inner = has_rest run p (Pay line) rest has in
      let has_tests = has_right run (p + 1) inner (tests ++ JumpNotZero p ∷ []) has_inner in
      let bodies = bodies_come body holds_body f sound e again n p
      (has_left run (p + 1) inner (tests ++ JumpNotZero p ∷ []) has_inner) fitting.0 low.0 at_again in
      let more = loop line (value_of test f.before) (scope (map run_of body) f.before) (nothing f.before) in
      comes_at run f sound (at p f.stack c) n e (p + length (Pay line ∷ rest))
      (turn line (scope (map run_of body) f.before) more s) whole
      (turn_comes run f line e again n p (scope (map run_of body) f.before) more s c follows.least has_pay bodies
      follows
      refl
      (λ u d there less long.
      turns_come run f line n p e again again jump (value_of test f.before) (scope (map run_of body) f.before)
      (nothing f.before) follows.least has_pay (has_right run test_at tests (JumpNotZero p ∷ []) has_tests) at_e
      (λ t d there long.
      subst (λ k. Gives run (at k f.stack d) (valued jump f.stack d) (value_of test f.before t)) at_again
      (test_gives (Some test) f sound n test_at (has_left run test_at tests (JumpNotZero p ∷ []) has_tests) fitting.1
      low.1
      t d there long))
      bodies
      (λ t d there long. arrived run (scoped n t.fuel f) (scoped_sound run f n t.fuel sound) t d n again there long)
      u.fuel u d there long (omega arith)))

  -- `for`
  pub for_comes :
      (line : ℕ) (h : SlotHead) (body : List SlotStmt) → HoldsHead run h → HoldsBody run body
      → (f : Frame) → IsSound run f → (s : Progress) (c : Config) (p : ℕ)
      → Follows f s c
      → HasAt run p ((for_block line (head h) (statements body)).code f.leave f.again p)
      → all_fit f.around (map statement_fits h.first) ≡ true
      → optional_fits f.around h.test ≡ true
      → step_fits f.around h.step ≡ true
      → all_fit (in_plain_loop f.around) (map statement_fits body) ≡ true
      → head_numbered h (length s.locals) ≡ true
      → all_suit (map numbering body) (length s.locals + all_add (map numbering h.first)) ≡ true
      → Comes run f (at p f.stack c) (length s.locals)
      (p + length ((for_block line (head h) (statements body)).code f.leave f.again p))
      (as_scope (λ t.
      on_to (runs_of h.first f.before t)
      (loop line (test_value h.test f.before) (scope (map run_of body) f.before) (step_of h.step f.before))) s)
  for_comes line h body holds_head holds_body f sound s c p follows has first_fits test_fits steps_fit body_fits heads
      low =
      let n0 = length s.locals in
      let adds = all_add (map numbering h.first) in
      let n = n0 + adds in
      let g = scoped n0 s.fuel f in
      let g_sound = scoped_sound run f n0 s.fuel sound in
      let size = (statements h.first).size in
      let b = p + size + 1 in
      let again = p + size + 2 + (statements body).size in
      let test_at = p + size + 2 + (statements body).size + (step_or_none h.step).size in
      let e = p + size + 3 + (statements body).size + (step_or_none h.step).size + (test_or_1 h.test).size in
      let first = (statements h.first).code f.leave f.again p in
      let q = p + length first in
      let inner = (statements body).code e again (q + 1 + 1) in
      let step_at = q + 1 + 1 + length inner in
      let steps = (step_or_none h.step).code step_at in
      let tests_at = step_at + length steps in
      let tests = (test_or_1 h.test).code tests_at in
      let jump = tests_at + length tests in
      let last_part = tests ++ JumpNotZero b ∷ [] in
      let rest = inner ++ (steps ++ last_part) in
      let code = first ++ (Jump test_at ∷ Pay line ∷ rest) in
      let first_long : length first ≡ size = statements_sized h.first f.leave f.again p in
      let inner_long : length inner ≡ (statements body).size = statements_sized body e again (q + 1 + 1) in
      let steps_long : length steps ≡ (step_or_none h.step).size = step_sized h.step step_at in
      let tests_long : length tests ≡ (test_or_1 h.test).size = test_sized h.test tests_at in
      let at_b : q + 1 ≡ b = omega (arith, first_long) in
      let at_again : b + 1 + length inner ≡ again = omega (arith, inner_long) in
      let at_step : step_at ≡ again = omega (arith, first_long, inner_long) in
      let at_test : tests_at ≡ test_at = omega (arith, first_long, inner_long, steps_long) in
      let at_e : jump + 1 ≡ e = omega (arith, first_long, inner_long, steps_long, tests_long) in
      let whole : e ≡ p + length code =
      (let long_1 = length-append first (Jump test_at ∷ Pay line ∷ rest) in
      let long_2 = length-append inner (steps ++ last_part) in
      let long_3 = length-append steps last_part in
      let long_4 = length-append tests (JumpNotZero b ∷ []) in
      omega (arith, long_1, long_2, long_3, long_4, first_long, inner_long, steps_long, tests_long)) in
      let has_jump = has_right run p first (Jump test_at ∷ Pay line ∷ rest) has in
      let has_pay = has_rest run q (Jump test_at) (Pay line ∷ rest) has_jump in
      let has_inner = has_rest run (q + 1) (Pay line) rest has_pay in
      let has_steps = has_right run (q + 1 + 1) inner (steps ++ last_part) has_inner in
      let has_tests = has_right run step_at steps last_part has_steps in
      let low_head = and_parts (all_suit (map numbering h.first) n0) _ heads in
      let low_both = and_parts (test_below n h.test) (step_below n h.step) low_head.1 in
      let here = reframed f g s c refl refl refl (omega arith) (omega arith) follows in
      let same_b : q + 1 + 1 ≡ b + 1 = ap (λ k. k + 1) at_b in
      let has_body : HasAt run (b + 1) ((statements body).code e again (b + 1)) =
      subst (λ k. HasAt run k ((statements body).code e again k)) same_b
      (has_left run (q + 1 + 1) inner (steps ++ last_part) has_inner) in
      let body_long : length ((statements body).code e again (b + 1)) ≡ (statements body).size =
      statements_sized body e again (b + 1) in
      let more = loop line (test_value h.test f.before) (scope (map run_of body) f.before) (step_of h.step f.before) in
      let all = on_to (runs_of h.first f.before s) more in
      let least : g.least ≤ n = omega arith in
      comes_at run f sound (at p f.stack c) n0 e (p + length code) (as_scope (λ t. on_to (runs_of h.first f.before t)
      more) s)
      whole
      (left_comes run f n0 s.fuel (at p f.stack c) n e all follows.least follows.most
      (comes_then run g (at p f.stack c) n n q e (runs_of h.first f.before s) more
      (holds_head g g_sound s c p here (has_left run p first (Jump test_at ∷ Pay line ∷ rest) has) first_fits
      low_head.0)
      (λ t d there long.
      comes_led run g (at q f.stack d) (at test_at f.stack d) n e (more t)
      (performed run (at q f.stack d) (at test_at f.stack d) (Jump test_at)
      (has_first run q (Jump test_at) (Pay line ∷ rest) has_jump) refl)
      (turns_come run g line n b e again test_at jump (test_value h.test f.before) (scope (map run_of body) f.before)
      (step_of h.step f.before) least
      (subst (λ k. HasAt run k (Pay line ∷ [])) at_b (has_left run (q + 1) (Pay line ∷ []) rest has_pay))
      (has_right run tests_at tests (JumpNotZero b ∷ []) has_tests) at_e
      (λ u d2 there2 long2.
      subst (λ k. Gives run (at k f.stack d2) (valued jump f.stack d2) (test_value h.test f.before u)) at_test
      (test_gives h.test g g_sound n tests_at (has_left run tests_at tests (JumpNotZero b ∷ []) has_tests) test_fits
      low_both.0 u d2 there2 long2))
      (bodies_come body holds_body g g_sound e again n b has_body body_fits low (omega (arith, body_long)))
      (λ u d2 there2 long2.
      let k = scoped n u.fuel g in
      let k_sound = scoped_sound run g n u.fuel g_sound in
      comes_from run k k_sound d2 f.stack n step_at again test_at (step_of h.step f.before u) at_step
      (comes_at run k k_sound (at step_at f.stack d2) n (step_at + length steps) test_at (step_of h.step f.before u)
      at_test
      (step_comes h.step k k_sound n step_at (has_left run step_at steps last_part has_steps) steps_fit low_both.1 u d2
      there2 long2)))
      t.fuel t d there long (omega arith))))).0

  -- a message loop
  pub loop_comes :
      (line input : ℕ) (body : List SlotStmt) → HoldsBody run body
      → (f : Frame) → IsSound run f → (s : Progress) (c : Config) (p : ℕ)
      → Follows f s c
      → HasAt run p ((loop_block line input (statements body)).code f.leave f.again p)
      → nat_lt input (length f.around.widths.inputs) ≡ true
      → is_inside input f.around ≡ false
      → all_fit (in_input_loop input f.around) (map statement_fits body) ≡ true
      → all_suit (map numbering body) (length s.locals) ≡ true
      → Comes run f (at p f.stack c) (length s.locals)
      (p + length ((loop_block line input (statements body)).code f.leave f.again p))
      (each_row line (λ row. scope (map run_of body) (standing_at input row f.before))
      (slice_index_or f.before.readings input []) s)
  loop_comes line input body holds_body f sound s c p follows has there closed body_fits low =
      let n = length s.locals in
      let b = p + 1 in
      let e = p + 3 + (statements body).size in
      let inner = (statements body).code e b (p + 1 + 1) in
      let rest = inner ++ Jump b ∷ Leave input ∷ [] in
      let code = Enter input ∷ Next line input e ∷ rest in
      let inner_long : length inner ≡ (statements body).size = statements_sized body e b (p + 1 + 1) in
      let all = slice_index_or f.before.readings input [] in
      let fed = come_to all 0 in
      let feeds = at_start input c.feeds in
      let d = record c { feeds = feeds } in
      let run_rows = λ (row : List ℤ). scope (map run_of body) (standing_at input row f.before) in
      let within : input < length f.before.readings =
      (let less : input < length f.around.widths.inputs = ltb-true input (length f.around.widths.inputs) there in
      let same : length f.around.widths.inputs ≡ length run.routine.widths.inputs =
      ap (λ (w : Widths). length w.inputs) sound.widths in
      omega (arith, less, same, sound.rows.count)) in
      let listed : slice_get f.before.readings input ≡ Some all =
      slice_get-get_or f.before.readings input [] within in
      let has_next = has_rest run p (Enter input) (Next line input e ∷ rest) has in
      let has_inner = has_rest run b (Next line input e) rest has_next in
      let has_jump = has_right run (b + 1) inner (Jump b ∷ Leave input ∷ []) has_inner in
      let q = b + 1 + length inner in
      let has_leave = has_rest run q (Jump b) (Leave input ∷ []) has_jump in
      let at_leave : q + 1 ≡ e = omega (arith, inner_long) in
      let at_end : q + 1 + 1 ≡ p + length code =
      (let long = length-append inner (Jump b ∷ Leave input ∷ []) in omega (arith, long)) in
      let after = feeds_follow run f sound input closed s c feeds follows (rows-at_start input c.feeds)
      (λ i apart. other-kept (with_come 0) c.feeds input i apart) in
      let begun : slice_get feeds input ≡ Some fed =
      start_found c.feeds f.before.readings input all follows.readings listed in
      comes_led run f (at p f.stack c) (at b f.stack d) n (p + length code) (each_row line run_rows all s)
      (performed run (at p f.stack c) (at b f.stack d) (Enter input)
      (has_first run p (Enter input) (Next line input e ∷ rest) has) refl)
      (comes_on run f (at b f.stack d) n e (p + length code) (each_row line run_rows all s)
      (rows_come run f sound input closed line e b n all run_rows follows.least
      (has_left run b (Next line input e ∷ []) rest has_next)
      (λ k t0 c0 row t d0 row_is_sound inside_row long.
      let g = rowed input row (at_next input c0.feeds) e b n k f in
      let comes = scope_comes run body holds_body g row_is_sound t d0 (b + 1) n inside_row long
      (has_left run (b + 1) inner (Jump b ∷ Leave input ∷ []) has_inner) body_fits low in (
        comes_on run g (at (b + 1) f.stack d0) n q b (run_rows row t) comes.0
            (λ x. performed run (at q f.stack x) (at b f.stack x) (Jump b)
            (has_first run q (Jump b) (Leave input ∷ []) has_jump) refl),
        comes.1,
      ))
      listed all 0 s d after refl begun (omega arith)
      (λ k row is.
      let zero_first : k ≡ 0 + k = omega arith in subst (λ j. slice_get all j ≡ Some row) zero_first is))
      (λ x.
      subst (λ j. Leads run (at e f.stack x) (at j f.stack x)) at_end
      (subst (λ j. Leads run (at j f.stack x) (at (q + 1 + 1) f.stack x)) at_leave
      (performed run (at (q + 1) f.stack x) (at (q + 1 + 1) f.stack x) (Leave input)
      (has_first run (q + 1) (Leave input) [] has_leave) refl))))
