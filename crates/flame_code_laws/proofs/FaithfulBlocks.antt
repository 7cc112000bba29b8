-- Blocks of code that come to what statements do: bodies, scopes and `if`.
use Rattle.std.proofs.Common.{◌≡◌, ℕ, ◌+◌, Bool, true, false, not, ◌&&◌, cond, List, [], ◌∷◌, ◌++◌, length, map, Some, refl, sym, ap, ◌∙◌, subst, arith, length-append}
use Rattle.std.specs.Prelude.{pos, slice_get}
use Rattle.std.specs.Ordering.{int_eq}
use Rattle.std.specs.List.{list_all}
use Rattle.std.proofs.lemmas.Bool.{and_parts}
use Rattle.flame_body.specs.declared.slots.SlotStmt.{SlotStmt}
use Rattle.flame_body.specs.declared.slots.SlotArm.{SlotArm}
use Rattle.flame_body.specs.declared.slots.SlotHead.{SlotHead}
use Rattle.flame_body.specs.BodyFits.{Around, fits, statement_fits, all_fit}
use Rattle.flame_body.proofs.FitForms.{arm_fits}
use Rattle.flame_code.specs.declared.instrs.Instr.{Instr}
use Rattle.flame_code.specs.declared.instrs.Instr.TheVariants.{Jump, JumpZero}
use Rattle.flame_code.specs.Machine.{Config, act, on}
use Rattle.flame_compile.specs.Pieces.{Block as CodeBlock}
use Rattle.flame_compile.specs.Emit.{arm_size, arms_size, arm_piece, arms_code, if_block, expression, statement, statements, arm}
use Rattle.flame_compile.proofs.Sized.{expression_sized}
use Rattle.flame_compile.proofs.SizedBlocks.{arm_sized, statements_sized}
use Rattle.flame_meaning.specs.Scenes.{Progress}
use Rattle.flame_meaning.specs.Expressions.{holds}
use Rattle.flame_meaning.specs.Ends.{End, went_on, with_value}
use Rattle.flame_number_laws.specs.NumberedScenes.{NumberedScene}
use Rattle.flame_number_laws.specs.NumberedMeaning.{value_of, first_arm, scope, run_of, runs_of, arm_of}
use Rattle.flame_code_laws.specs.CodeRuns.{Running, HasAt, at}
use Rattle.flame_code_laws.specs.NamedLocals.{names_below}
use Rattle.flame_code_laws.specs.LocalNumbers.{Numbering, adding_none, all_add, all_suit, numbering}
use Rattle.flame_code_laws.specs.Standings.{Frame, IsSound, Follows, Comes}
use Rattle.flame_code_laws.proofs.NumberingForms.{arm_numbered}
use Rattle.flame_code_laws.proofs.Going.{has_left, has_right, has_first, has_rest, valued, performed}
use Rattle.flame_code_laws.proofs.FaithfulExpressions.{expression_does}
use Rattle.flame_code_laws.proofs.Comings.{alike_of, comes_led, value_comes}
use Rattle.flame_code_laws.proofs.FaithfulStores.{comes_at, comes_with, comes_from, arrived}
use Rattle.flame_code_laws.proofs.Turning.{Whole, scoped, scoped_sound, reframed, left_comes, comes_then, comes_on}
use Rattle.flame_compile.proofs.LabelledStatements.{arms_long}

module _ (run : Running) where
  -- ---- what holds of statements

  -- a block comes to what a statement does, where the statement fits and its locals are numbered
  abbrev pub Doing : CodeBlock → (Around → Bool) → Numbering → (NumberedScene → Progress → End) → Type 0
  Doing block fitting numbers does =
      (f : Frame) → IsSound run f → (s : Progress) (c : Config) (p : ℕ)
      → Follows f s c
      → HasAt run p (block.code f.leave f.again p)
      → fitting f.around ≡ true
      → numbers.suits (length s.locals) ≡ true
      → Comes run f (at p f.stack c) (length s.locals + numbers.adds) (p + length (block.code f.leave f.again p))
      (does f.before s)

  -- a statement does
  abbrev pub Holds : SlotStmt → Type 0
  Holds x = Doing (statement x) (statement_fits x) (numbering x) (run_of x)

  -- so do the statements of a body
  abbrev pub HoldsBody : List SlotStmt → Type 0
  HoldsBody body =
      Doing (statements body) (λ around. all_fit around (map statement_fits body))
      (record { adds = all_add (map numbering body); suits = all_suit (map numbering body) }) (runs_of body)

  -- the body of an arm
  abbrev pub HoldsArm : SlotArm → Type 0
  HoldsArm a = HoldsBody a.body

  -- the first statements of a `for`
  abbrev pub HoldsHead : SlotHead → Type 0
  HoldsHead h = HoldsBody h.first

  -- statements without what holds of them
  abbrev pub bare : List ((x : SlotStmt) × Holds x) → List SlotStmt
  bare xs = map (λ x. x.0) xs

  -- arms without what holds of them
  abbrev pub bare_arms : List ((a : SlotArm) × HoldsArm a) → List SlotArm
  bare_arms arms = map (λ a. a.0) arms

  -- statements, one behind another
  pub body_holds : (xs : List ((x : SlotStmt) × Holds x)) → HoldsBody (bare xs)
  body_holds [] f sound s c p follows has fit_all low_all =
      let end : p ≡ p + 0 = omega arith in
      let long : length s.locals ≡ length s.locals + 0 = omega arith in
      comes_at run f sound (at p f.stack c) (length s.locals + 0) p (p + 0) (went_on s) end
      (arrived run f sound s c (length s.locals + 0) p follows long)
  body_holds (x ∷ xs) f sound s c p follows has fit_all low_all =
      let first = (statement x.0).code f.leave f.again p in
      let rest = (statements (bare xs)).code f.leave f.again (p + length first) in
      let fitting = and_parts (statement_fits x.0 f.around) _ fit_all in
      let low = and_parts ((numbering x.0).suits (length s.locals)) _ low_all in
      let more_adds = all_add (map numbering (bare xs)) in
      let n = length s.locals + (numbering x.0).adds in
      let m = length s.locals + ((numbering x.0).adds + more_adds) in
      let end : p + length first + length rest ≡ p + length (first ++ rest) =
      (let long = length-append first rest in omega (arith, long)) in
      comes_then run f (at p f.stack c) n m (p + length first) (p + length (first ++ rest)) (run_of x.0 f.before s)
      (runs_of (bare xs) f.before)
      (x.1 f sound s c p follows (has_left run p first rest has) fitting.0 low.0)
      (λ t d there long.
      let count : length t.locals + more_adds ≡ m = omega (arith, long) in
      comes_with run f sound (at (p + length first) f.stack d) (length t.locals + more_adds) m
      (p + length (first ++ rest)) (runs_of (bare xs) f.before t) count
      (comes_at run f sound (at (p + length first) f.stack d) (length t.locals + more_adds)
      (p + length first + length rest) (p + length (first ++ rest)) (runs_of (bare xs) f.before t) end
      (body_holds xs f sound t d (p + length first) there (has_right run p first rest has) fitting.1
      (subst (λ k. all_suit (map numbering (bare xs)) k ≡ true) (sym long) low.1))))

  -- a body as a scope
  pub scope_comes :
      (body : List SlotStmt) → HoldsBody body
      → (f : Frame) → IsSound run f → (s : Progress) (c : Config) (p n : ℕ)
      → Follows f s c
      → length s.locals ≡ n
      → HasAt run p ((statements body).code f.leave f.again p)
      → all_fit f.around (map statement_fits body) ≡ true
      → all_suit (map numbering body) n ≡ true
      → Comes run f (at p f.stack c) n (p + length ((statements body).code f.leave f.again p))
      (scope (map run_of body) f.before s)
      × Whole n (scope (map run_of body) f.before s)
  scope_comes body holds_body f sound s c p n follows long has fit_all low_all =
      let count = length s.locals in
      let g = scoped count s.fuel f in
      let q = p + length ((statements body).code f.leave f.again p) in
      let inner = reframed f g s c refl refl refl (omega arith) (omega arith) follows in
      subst (λ k. Comes run f (at p f.stack c) k q (scope (map run_of body) f.before s)
      × Whole k (scope (map run_of body) f.before s)) long
      (left_comes run f count s.fuel (at p f.stack c) (count + all_add (map numbering body)) q
      (runs_of body f.before s) follows.least follows.most
      (holds_body g (scoped_sound run f count s.fuel sound) s c p inner has fit_all
      (subst (λ k. all_suit (map numbering body) k ≡ true) (sym long) low_all)))

  -- ---- `if`

  -- an instruction that goes on at two places by a test
  pub chosen :
      (f : Frame) (c zero_c other_c : Config) (i : Instr) (n q : ℕ) (b : Bool) (x y : End)
      → slice_get run.routine.instrs c.place ≡ Some i
      → act run.given run.routine.widths (Some i) c ≡ cond b (on zero_c) (on other_c)
      → Comes run f other_c n q x
      → Comes run f zero_c n q y
      → Comes run f c n q (cond (not b) x y)
  chosen f c zero_c other_c i n q true x y there does other zero_comes =
      comes_led run f c zero_c n q y (performed run c zero_c i there does) zero_comes
  chosen f c zero_c other_c i n q false x y there does other zero_comes =
      comes_led run f c other_c n q x (performed run c other_c i there does) other

  -- a test and its body, or what comes behind them
  pub arm_comes :
      (a : SlotArm) → HoldsArm a
      → (f : Frame) → IsSound run f → (s : Progress) (c : Config) (p e : ℕ) (otherwise : End)
      → Follows f s c
      → HasAt run p ((arm_piece (arm a) f.leave f.again e).code p)
      → arm_fits a f.around ≡ true
      → arm_numbered a (length s.locals) ≡ true
      → Comes run f (at (p + arm_size (arm a)) f.stack c) (length s.locals) e otherwise
      → Comes run f (at p f.stack c) (length s.locals) e
      (with_value (value_of a.test f.before s) (λ v.
      cond (holds v) (scope (map run_of a.body) f.before s) otherwise))
  arm_comes a holds_body f sound s c p e otherwise follows has fit_it low_it behind =
      let n = length s.locals in
      let over = p + arm_size (arm a) in
      let tests = (expression a.test).code p in
      let q = p + length tests in
      let inner = (statements a.body).code f.leave f.again (q + 1) in
      let fitting = and_parts (fits f.around a.test) (all_fit f.around (map statement_fits a.body)) fit_it in
      let low = and_parts (names_below n a.test) (all_suit (map numbering a.body) n) low_it in
      let has_jump = has_right run p tests (JumpZero over ∷ (inner ++ Jump e ∷ [])) has in
      let has_inner = has_rest run q (JumpZero over) (inner ++ Jump e ∷ []) has_jump in
      let body = scope (map run_of a.body) f.before s in
      value_comes run f (at p f.stack c) (valued q f.stack c) n e (value_of a.test f.before s)
      (λ v. cond (holds v) body otherwise)
      ((expression_does run f.around f.before s c (alike_of run f s c sound follows) a.test).value p f.stack
      (has_left run p tests (JumpZero over ∷ (inner ++ Jump e ∷ [])) has) fitting.0 low.0)
      (λ v. chosen f (at q (v ∷ f.stack) c) (at over f.stack c) (at (q + 1) f.stack c) (JumpZero over) n e
      (int_eq v (pos 0)) body otherwise (has_first run q (JumpZero over) (inner ++ Jump e ∷ []) has_jump) refl
      (comes_on run f (at (q + 1) f.stack c) n (q + 1 + length inner) e body
      (scope_comes a.body holds_body f sound s c (q + 1) n follows refl
      (has_left run (q + 1) inner (Jump e ∷ []) has_inner) fitting.1 low.1).0
      (λ d. performed run (at (q + 1 + length inner) f.stack d) (at e f.stack d) (Jump e)
      (has_first run (q + 1 + length inner) (Jump e) [] (has_right run (q + 1) inner (Jump e ∷ []) has_inner)) refl))
      behind)

  -- the arms of an `if`, and what comes behind them
  pub arms_come :
      (arms : List ((a : SlotArm) × HoldsArm a)) (otherwise : NumberedScene → Progress → End)
      (f : Frame) → IsSound run f → (s : Progress) (c : Config) (p e : ℕ)
      → Follows f s c
      → HasAt run p ((arms_code (map arm (bare_arms arms)) f.leave f.again e).code p)
      → all_fit f.around (map arm_fits (bare_arms arms)) ≡ true
      → list_all (λ (x : ℕ → Bool). x (length s.locals)) (map arm_numbered (bare_arms arms)) ≡ true
      → Comes run f
      (at (p + length ((arms_code (map arm (bare_arms arms)) f.leave f.again e).code p)) f.stack c) (length s.locals) e
      (otherwise f.before s)
      → Comes run f (at p f.stack c) (length s.locals) e
      (first_arm (map arm_of (bare_arms arms)) otherwise f.before s)
  arms_come [] otherwise f sound s c p e follows has fit_all low_all behind =
      let same : p + 0 ≡ p = omega arith in
      comes_from run f sound c f.stack (length s.locals) (p + 0) p e (otherwise f.before s) same behind
  arms_come (a ∷ arms) otherwise f sound s c p e follows has fit_all low_all behind =
      let n = length s.locals in
      let first = (arm_piece (arm a.0) f.leave f.again e).code p in
      let rest = (arms_code (map arm (bare_arms arms)) f.leave f.again e).code (p + length first) in
      let fitting = and_parts (arm_fits a.0 f.around) _ fit_all in
      let low = and_parts (arm_numbered a.0 n) _ low_all in
      let long : p + length first ≡ p + arm_size (arm a.0) =
      ap (λ k. p + k) (arm_sized (arm a.0) (expression_sized a.0.test) (statements_sized a.0.body) f.leave f.again
      (p + arm_size (arm a.0)) e p) in
      let end : p + length (first ++ rest) ≡ p + length first + length rest =
      (let both_long = length-append first rest in omega (arith, both_long)) in
      let others = first_arm (map arm_of (bare_arms arms)) otherwise f.before s in
      arm_comes a.0 a.1 f sound s c p e others follows (has_left run p first rest has) fitting.0 low.0
      (comes_from run f sound c f.stack n (p + length first) (p + arm_size (arm a.0)) e others long
      (arms_come arms otherwise f sound s c (p + length first) e follows (has_right run p first rest has) fitting.1
      low.1
      (comes_from run f sound c f.stack n (p + length (first ++ rest)) (p + length first + length rest) e
      (otherwise f.before s) end behind)))

  -- ---- forms

  -- by what a form becomes, fits, declares and does
  pub by_form :
      (x : SlotStmt) (block : CodeBlock) (fitting : Around → Bool) (adds : ℕ) (suits : ℕ → Bool)
      (does : NumberedScene → Progress → End)
      → statement x ≡ block
      → ((around : Around) → statement_fits x around ≡ fitting around)
      → (numbering x).adds ≡ adds
      → ((n : ℕ) → (numbering x).suits n ≡ suits n)
      → ((before : NumberedScene) (s : Progress) → run_of x before s ≡ does before s)
      → Doing block fitting (record { adds = adds; suits = suits }) does
      → Holds x
  by_form x block fitting adds suits does is fit_is adds_is suits_is does_is holds f sound s c p follows has fit_it
      low_it =
      let start = at p f.stack c in
      subst (λ (b : CodeBlock). Comes run f start (length s.locals + (numbering x).adds)
      (p + length (b.code f.leave f.again p)) (run_of x f.before s)) (sym is)
      (subst (λ k. Comes run f start (length s.locals + k) (p + length (block.code f.leave f.again p))
      (run_of x f.before s)) (sym adds_is)
      (subst (λ e. Comes run f start (length s.locals + adds) (p + length (block.code f.leave f.again p)) e)
      (sym (does_is f.before s))
      (holds f sound s c p follows (subst (λ (b : CodeBlock). HasAt run p (b.code f.leave f.again p)) is has)
      (sym (fit_is f.around) ∙ fit_it) (sym (suits_is (length s.locals)) ∙ low_it))))

  -- of one that declares nothing for what stands behind it
  pub by_none :
      (x : SlotStmt) (block : CodeBlock) (fitting : Around → Bool) (suits : ℕ → Bool) (does : NumberedScene → Progress → End)
      → statement x ≡ block
      → ((around : Around) → statement_fits x around ≡ fitting around)
      → numbering x ≡ adding_none suits
      → ((before : NumberedScene) (s : Progress) → run_of x before s ≡ does before s)
      → ((f : Frame) → IsSound run f → (s : Progress) (c : Config) (p : ℕ)
      → Follows f s c
      → HasAt run p (block.code f.leave f.again p)
      → fitting f.around ≡ true
      → suits (length s.locals) ≡ true
      → Comes run f (at p f.stack c) (length s.locals) (p + length (block.code f.leave f.again p)) (does f.before s))
      → Holds x
  by_none x block fitting suits does is fit_is numbers does_is holds =
      by_form x block fitting 0 suits does is fit_is (ap (λ (k : Numbering). k.adds) numbers)
      (λ n. ap (λ (k : Numbering). k.suits n) numbers) does_is
      (λ f sound s c p follows has fit_it low_it.
      let count : length s.locals ≡ length s.locals + 0 = omega arith in
      comes_with run f sound (at p f.stack c) (length s.locals) (length s.locals + 0)
      (p + length (block.code f.leave f.again p)) (does f.before s) count
      (holds f sound s c p follows has fit_it low_it))

  -- `if`
  pub if_comes :
      (arms : List ((a : SlotArm) × HoldsArm a)) (otherwise : List SlotStmt) → HoldsBody otherwise
      → (f : Frame) → IsSound run f → (s : Progress) (c : Config) (p : ℕ)
      → Follows f s c
      → HasAt run p ((if_block (map arm (bare_arms arms)) (statements otherwise)).code f.leave f.again p)
      → (all_fit f.around (map arm_fits (bare_arms arms)) && all_fit f.around (map statement_fits otherwise)) ≡ true
      → (list_all (λ (x : ℕ → Bool). x (length s.locals)) (map arm_numbered (bare_arms arms))
      && all_suit (map numbering otherwise) (length s.locals)) ≡ true
      → Comes run f (at p f.stack c) (length s.locals)
      (p + length ((if_block (map arm (bare_arms arms)) (statements otherwise)).code f.leave f.again p))
      (first_arm (map arm_of (bare_arms arms)) (scope (map run_of otherwise)) f.before s)
  if_comes arms otherwise holds_body f sound s c p follows has fit_it low_it =
      let n = length s.locals in
      let e = p + arms_size (map arm (bare_arms arms)) + (statements otherwise).size in
      let front = (arms_code (map arm (bare_arms arms)) f.leave f.again e).code p in
      let q = p + length front in
      let inner = (statements otherwise).code f.leave f.again q in
      let fitting = and_parts (all_fit f.around (map arm_fits (bare_arms arms))) _ fit_it in
      let low = and_parts (list_all (λ (x : ℕ → Bool). x n) (map arm_numbered (bare_arms arms))) _ low_it in
      let front_long : length front ≡ arms_size (map arm (bare_arms arms)) =
      arms_long (bare_arms arms) f.leave f.again e p in
      let inner_long : length inner ≡ (statements otherwise).size = statements_sized otherwise f.leave f.again q in
      let end : q + length inner ≡ e = omega (arith, front_long, inner_long) in
      let whole : e ≡ p + length (front ++ inner) =
      (let long = length-append front inner in omega (arith, long, front_long, inner_long)) in
      let done = scope (map run_of otherwise) f.before s in
      comes_at run f sound (at p f.stack c) n e (p + length (front ++ inner))
      (first_arm (map arm_of (bare_arms arms)) (scope (map run_of otherwise)) f.before s) whole
      (arms_come arms (scope (map run_of otherwise)) f sound s c p e follows (has_left run p front inner has) fitting.0
      low.0
      (comes_at run f sound (at q f.stack c) n (q + length inner) e done end
      (scope_comes otherwise holds_body f sound s c q n follows refl (has_right run p front inner has) fitting.1
      low.1).0))
