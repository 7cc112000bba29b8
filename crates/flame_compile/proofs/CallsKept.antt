-- The calls in the code of statements pass where those of their tree do.
use Rattle.std.proofs.Common.{◌≡◌, ℕ, ◌+◌, ◌&&◌, Bool, true, List, [], ◌∷◌, ◌++◌, length, map, Option, Some, None, refl, sym, ◌∙◌, subst}
use Rattle.std.specs.Prelude.{pos}
use Rattle.std.specs.List.{list_all}
use Rattle.std.proofs.lemmas.Bool.{and_parts, and_from}
use Rattle.flame_ops.specs.declared.integers.Op.{Op}
use Rattle.flame_body.specs.declared.slots.SlotArm.{SlotArm}
use Rattle.flame_body.specs.declared.slots.SlotAssign.{SlotAssign}
use Rattle.flame_body.specs.declared.slots.SlotDeed.{SlotDeed}
use Rattle.flame_body.specs.declared.slots.SlotDeed.TheVariants.{Sets, Sends, Bears, Calls}
use Rattle.flame_body.specs.declared.slots.SlotExpr.{SlotExpr}
use Rattle.flame_body.specs.declared.slots.SlotHead.{SlotHead}
use Rattle.flame_body.specs.declared.slots.SlotItem.{SlotItem}
use Rattle.flame_body.specs.declared.slots.SlotTarget.{SlotTarget}
use Rattle.flame_body.specs.declared.slots.SlotTarget.TheVariants as set
use Rattle.flame_body.specs.declared.slots.SlotValue.{SlotValue}
use Rattle.flame_body.specs.declared.slots.SlotValue.TheVariants as stored
use Rattle.flame_body.specs.declared.slots.SlotStmt.{SlotStmt, Empty, Declare, Assign, If, While, For, Do, Loop, Break, Continue, roll-SlotStmt, ind-SlotStmt, map-SlotStmt}
use Rattle.flame_body.specs.declared.slots.SlotStmt as stmt
use Rattle.flame_body.specs.declared.slots.SlotStmt.TheVariants.{rolls-Empty, rolls-Declare, rolls-Assign, rolls-Call, rolls-Block, rolls-If, rolls-While, rolls-For, rolls-Do, rolls-Loop, rolls-Return, rolls-Break, rolls-Continue}
use Rattle.flame_body.specs.declared.slots.SlotStmt.TheOpen.{SlotStmt-F}
use Rattle.flame_body.specs.BodyCalls.{initial_calls_pass, stored_calls_pass, step_calls_pass, deed_calls_pass, all_calls_pass, statement_calls_pass}
use Rattle.flame_body.specs.BodyCalls.{tree_calls_pass}
use Rattle.flame_body.proofs.CallForms.{arm_calls_pass, calls-Declare, calls-Assign, calls-Call, calls-Block, calls-If, calls-While, calls-For, calls-Do, calls-Loop}
use Rattle.flame_code.specs.declared.instrs.Instr.TheVariants.{Push, Call, Jump, JumpZero, JumpNotZero, Pay, Leave, Return, SetLoc}
use Rattle.flame_code.specs.HelperCodes.{call_passes}
use Rattle.flame_compile.specs.Pieces.{Piece, row, one, both, in_order, Block, plain}
use Rattle.flame_compile.specs.Emit.{arguments, value, initial, item, index, loaded, store, operator, assign, assignment, deed, expression, test_or_1, step_or_none, arm_size, arms_size, arm_piece, arms_code, if_block, while_block, for_block, do_block, loop_block, break_block, continue_block, statement, statements, arm, head, emitted}
use Rattle.flame_compile.proofs.Forms.{statement-Empty, statement-Declare, statement-Assign, statement-Call, statement-Block, statement-If, statement-While, statement-For, statement-Do, statement-Loop, statement-Return, statement-Break, statement-Continue}
use Rattle.flame_compile.proofs.CallFree.{AllPass, PiecePasses, append_fits, both_fit, operator_fits, expression_calls, arguments_calls}

-- ---- what is stored

-- what is stored
value_calls : (passes : ℕ → ℕ → Bool) (v : SlotValue) → stored_calls_pass passes v ≡ true → PiecePasses passes (value v)
value_calls passes (stored.Plain e) fits = expression_calls passes e
value_calls passes (stored.Call line helper es) fits =
    both_fit passes (arguments es) (one (Call line helper (length es))) (arguments_calls passes es)
    (λ p. and_from (call_passes passes (Call line helper (length es))) true fits refl)

-- what a local begins with
initial_calls :
    (passes : ℕ → ℕ → Bool) (v : Option SlotValue) → initial_calls_pass passes v ≡ true → PiecePasses passes (initial v)
initial_calls passes None fits = λ p. refl
initial_calls passes (Some v) fits = value_calls passes v fits

-- the locals of a declaration
items_calls :
    (passes : ℕ → ℕ → Bool) (items : List SlotItem)
    → list_all (λ (i : SlotItem). initial_calls_pass passes i.value) items ≡ true
    → PiecePasses passes (in_order (map item items))
items_calls passes [] fits = λ p. refl
items_calls passes (i ∷ items) fits =
    let parts = and_parts (initial_calls_pass passes i.value)
    (list_all (λ (i : SlotItem). initial_calls_pass passes i.value) items) fits in
    both_fit passes (item i) (in_order (map item items))
    (both_fit passes (initial i.value) (one (SetLoc i.local)) (initial_calls passes i.value parts.0) (λ p. refl))
    (items_calls passes items parts.1)

-- the index of what is set
index_calls : (passes : ℕ → ℕ → Bool) (target : SlotTarget) → PiecePasses passes (index target)
index_calls passes (set.Local number) = λ p. refl
index_calls passes (set.Memory column) = λ p. refl
index_calls passes (set.Element cells e) = expression_calls passes e.index

-- what is set is read
loaded_calls : (passes : ℕ → ℕ → Bool) (target : SlotTarget) → PiecePasses passes (loaded target)
loaded_calls passes (set.Local number) = λ p. refl
loaded_calls passes (set.Memory column) = λ p. refl
loaded_calls passes (set.Element cells e) = λ p. refl

-- the value on the stack is stored
store_calls : (passes : ℕ → ℕ → Bool) (target : SlotTarget) → PiecePasses passes (one (store target))
store_calls passes (set.Local number) = λ p. refl
store_calls passes (set.Memory column) = λ p. refl
store_calls passes (set.Element cells e) = λ p. refl

-- one piece
in_order_1 : (passes : ℕ → ℕ → Bool) (a : Piece) → PiecePasses passes a → PiecePasses passes (in_order (a ∷ []))
in_order_1 passes a ha = both_fit passes a (row []) ha (λ p. refl)

-- an assignment
assign_calls :
    (passes : ℕ → ℕ → Bool) (target : SlotTarget) (o : Option Op) (line : ℕ) (v : SlotValue)
    → stored_calls_pass passes v ≡ true → PiecePasses passes (assign target o line v)
assign_calls passes target None line v fits =
    let last = one (store target) in
    both_fit passes (index target) (in_order (value v ∷ last ∷ [])) (index_calls passes target)
    (both_fit passes (value v) (in_order (last ∷ [])) (value_calls passes v fits)
    (in_order_1 passes last (store_calls passes target)))
assign_calls passes target (Some o) line v fits =
    let operates = one (operator o line) in
    let last = one (store target) in
    both_fit passes (index target) (in_order (loaded target ∷ value v ∷ operates ∷ last ∷ []))
    (index_calls passes target)
    (both_fit passes (loaded target) (in_order (value v ∷ operates ∷ last ∷ [])) (loaded_calls passes target)
    (both_fit passes (value v) (in_order (operates ∷ last ∷ [])) (value_calls passes v fits)
    (both_fit passes operates (in_order (last ∷ [])) (λ p. operator_fits passes o line)
    (in_order_1 passes last (store_calls passes target)))))

-- the step of a `for`
step_calls :
    (passes : ℕ → ℕ → Bool) (step : Option SlotAssign)
    → step_calls_pass passes step ≡ true → PiecePasses passes (step_or_none step)
step_calls passes None fits = λ p. refl
step_calls passes (Some a) fits = assign_calls passes a.target a.op a.op_line a.value fits

-- a test of a loop
test_calls : (passes : ℕ → ℕ → Bool) (test : Option SlotExpr) → PiecePasses passes (test_or_1 test)
test_calls passes None = λ p. refl
test_calls passes (Some e) = expression_calls passes e

-- a call statement
deed_calls :
    (passes : ℕ → ℕ → Bool) (d : SlotDeed) (es : List SlotExpr)
    → deed_calls_pass passes d es ≡ true → PiecePasses passes (deed d (length es))
deed_calls passes (Sets column) es fits = λ p. refl
deed_calls passes (Sends message) es fits = λ p. refl
deed_calls passes (Bears agent) es fits = λ p. refl
deed_calls passes (Calls line helper) es fits = λ p.
    and_from (call_passes passes (Call line helper (length es))) true fits refl

-- ---- statements

-- the calls in the code of a statement pass where its own do
abbrev Holds : (ℕ → ℕ → Bool) → SlotStmt → Type 0
Holds passes s =
    statement_calls_pass passes s ≡ true → (leave again p : ℕ) → AllPass passes ((statement s).code leave again p)

-- so with statements
abbrev HoldsBody : (ℕ → ℕ → Bool) → List SlotStmt → Type 0
HoldsBody passes body =
    tree_calls_pass passes body ≡ true → (leave again p : ℕ) → AllPass passes ((statements body).code leave again p)

-- so with the body of a test
abbrev HoldsArm : (ℕ → ℕ → Bool) → SlotArm → Type 0
HoldsArm passes a = HoldsBody passes a.body

-- so with the first statements of a `for`
abbrev HoldsHead : (ℕ → ℕ → Bool) → SlotHead → Type 0
HoldsHead passes h = HoldsBody passes h.first

-- statements, where each keeps them
body_calls : (passes : ℕ → ℕ → Bool) (ss : List ((s : SlotStmt) × Holds passes s)) → HoldsBody passes (map (λ s. s.0) ss)
body_calls passes [] fits leave again p = refl
body_calls passes (s ∷ ss) fits leave again p =
    let front = (statement s.0).code leave again p in
    let parts = and_parts (statement_calls_pass passes s.0) (tree_calls_pass passes (map (λ s. s.0) ss)) fits in
    append_fits passes front ((statements (map (λ s. s.0) ss)).code leave again (p + length front))
    (s.1 parts.0 leave again p) (body_calls passes ss parts.1 leave again (p + length front))

-- a test and its body
arm_calls :
    (passes : ℕ → ℕ → Bool) (a : SlotArm)
    → HoldsBody passes a.body → arm_calls_pass passes a ≡ true
    → (leave again e : ℕ) → PiecePasses passes (arm_piece (arm a) leave again e)
arm_calls passes a holds fits leave again e p =
    let n = p + arm_size (arm a) in
    let tests = (expression a.test).code p in
    let q = p + length tests + 1 in
    let inner = (statements a.body).code leave again q in
    append_fits passes tests (JumpZero n ∷ (inner ++ Jump e ∷ [])) (expression_calls passes a.test p)
    (append_fits passes inner (Jump e ∷ []) (holds fits leave again q) refl)

-- arms
arms_calls :
    (passes : ℕ → ℕ → Bool) (arms : List ((a : SlotArm) × HoldsArm passes a))
    → all_calls_pass (map (arm_calls_pass passes) (map (λ a. a.0) arms)) ≡ true
    → (leave again e : ℕ) → PiecePasses passes (arms_code (map arm (map (λ a. a.0) arms)) leave again e)
arms_calls passes [] fits leave again e = λ p. refl
arms_calls passes (a ∷ arms) fits leave again e =
    let parts = and_parts (arm_calls_pass passes a.0)
    (all_calls_pass (map (arm_calls_pass passes) (map (λ a. a.0) arms))) fits in
    both_fit passes (arm_piece (arm a.0) leave again e) (arms_code (map arm (map (λ a. a.0) arms)) leave again e)
    (arm_calls passes a.0 a.1 parts.0 leave again e) (arms_calls passes arms parts.1 leave again e)

-- a form with its parts alone
abbrev firsts :
    (passes : ℕ → ℕ → Bool)
    → SlotStmt-F ((s : SlotStmt) × Holds passes s) ((a : SlotArm) × HoldsArm passes a)
    ((h : SlotHead) × HoldsHead passes h)
    → SlotStmt-F SlotStmt SlotArm SlotHead
firsts passes =
    map-SlotStmt ((s : SlotStmt) × Holds passes s) ((a : SlotArm) × HoldsArm passes a)
    ((h : SlotHead) × HoldsHead passes h)
    SlotStmt SlotArm SlotHead (λ s. s.0) (λ a. a.0) (λ h. h.0)

-- by what a statement becomes, and what its calls are
by_form :
    (passes : ℕ → ℕ → Bool) (s : SlotStmt) (block : Block) (test : Bool)
    → statement s ≡ block
    → statement_calls_pass passes s ≡ test
    → (test ≡ true → (leave again p : ℕ) → AllPass passes (block.code leave again p))
    → Holds passes s
by_form passes s block test is fits_is holds fits leave again p =
    subst (λ (b : Block). AllPass passes (b.code leave again p)) (sym is) (holds (sym fits_is ∙ fits) leave again p)

-- a form without a call of its own
by_free :
    (passes : ℕ → ℕ → Bool) (s : SlotStmt) (block : Block)
    → statement s ≡ block
    → ((leave again p : ℕ) → AllPass passes (block.code leave again p))
    → Holds passes s
by_free passes s block is holds fits leave again p =
    subst (λ (b : Block). AllPass passes (b.code leave again p)) (sym is) (holds leave again p)

-- each form
layer_calls :
    (passes : ℕ → ℕ → Bool)
    (y : SlotStmt-F ((s : SlotStmt) × Holds passes s) ((a : SlotArm) × HoldsArm passes a)
    ((h : SlotHead) × HoldsHead passes h))
    → Holds passes (roll-SlotStmt (firsts passes y))
layer_calls passes SlotStmt-F.Empty =
    subst (Holds passes) (sym rolls-Empty) (by_free passes Empty (plain (row [])) statement-Empty (λ l g p. refl))
layer_calls passes (SlotStmt-F.Declare items) =
    subst (Holds passes) (sym (rolls-Declare items))
    (by_form passes (Declare items) (plain (in_order (map item items)))
    (list_all (λ i. initial_calls_pass passes i.value) items) (statement-Declare items) (calls-Declare passes items)
    (λ fits l g p. items_calls passes items fits p))
layer_calls passes (SlotStmt-F.Assign a) =
    subst (Holds passes) (sym (rolls-Assign a))
    (by_form passes (Assign a) (plain (assignment a)) (stored_calls_pass passes a.value) (statement-Assign a)
    (calls-Assign passes a) (λ fits l g p. assign_calls passes a.target a.op a.op_line a.value fits p))
layer_calls passes (SlotStmt-F.Call d es) =
    let done = deed d (length es) in
    subst (Holds passes) (sym (rolls-Call d es))
    (by_form passes (stmt.Call d es) (plain (both (arguments es) done)) (deed_calls_pass passes d es)
    (statement-Call d es)
    (calls-Call passes d es)
    (λ fits l g p. both_fit passes (arguments es) done (arguments_calls passes es) (deed_calls passes d es fits) p))
layer_calls passes (SlotStmt-F.Block body) =
    let inner = map (λ s. s.0) body in
    subst (Holds passes) (sym (rolls-Block inner))
    (by_form passes (stmt.Block inner) (statements inner) (tree_calls_pass passes inner) (statement-Block inner)
    (calls-Block passes inner) (body_calls passes body))
layer_calls passes (SlotStmt-F.If tests otherwise) =
    let arms = map (λ a. a.0) tests in
    let inner = map (λ s. s.0) otherwise in
    let arms_fit = all_calls_pass (map (arm_calls_pass passes) arms) in
    subst (Holds passes) (sym (rolls-If arms inner))
    (by_form passes (If arms inner) (if_block (map arm arms) (statements inner))
    (arms_fit && tree_calls_pass passes inner)
    (statement-If arms inner) (calls-If passes arms inner)
    (λ fits l g p.
    let parts = and_parts arms_fit (tree_calls_pass passes inner) fits in
    let end = p + arms_size (map arm arms) + (statements inner).size in
    let front = (arms_code (map arm arms) l g end).code p in
    append_fits passes front ((statements inner).code l g (p + length front))
    (arms_calls passes tests parts.0 l g end p)
    (body_calls passes otherwise parts.1 l g (p + length front))))
layer_calls passes (SlotStmt-F.While line test body) =
    let inner = map (λ s. s.0) body in
    subst (Holds passes) (sym (rolls-While line test inner))
    (by_form passes (While line test inner) (while_block line (expression test) (statements inner))
    (tree_calls_pass passes inner) (statement-While line test inner) (calls-While passes line test inner)
    (λ fits l g p.
    let size = (statements inner).size in
    let e = p + 3 + size + (expression test).size in
    let code = (statements inner).code e (p + 2 + size) (p + 1 + 1) in
    let q = p + 1 + 1 + length code in
    append_fits passes code ((expression test).code q ++ JumpNotZero (p + 1) ∷ [])
    (body_calls passes body fits e (p + 2 + size) (p + 1 + 1))
    (append_fits passes ((expression test).code q) (JumpNotZero (p + 1) ∷ []) (expression_calls passes test q) refl)))
layer_calls passes (SlotStmt-F.For line h body) =
    let inner = map (λ s. s.0) body in
    let first_fits = tree_calls_pass passes h.0.first in
    let step_fits = step_calls_pass passes h.0.step in
    subst (Holds passes) (sym (rolls-For line h.0 inner))
    (by_form passes (For line h.0 inner) (for_block line (head h.0) (statements inner))
    ((first_fits && step_fits) && tree_calls_pass passes inner) (statement-For line h.0 inner)
    (calls-For passes line h.0 inner)
    (λ fits l g p.
    let parts = and_parts (first_fits && step_fits) (tree_calls_pass passes inner) fits in
    let heads = and_parts first_fits step_fits parts.0 in
    let begins = (statements h.0.first).size in
    let size = (statements inner).size in
    let steps = (step_or_none h.0.step).size in
    let b = p + begins + 1 in
    let s = p + begins + 2 + size in
    let c = p + begins + 2 + size + steps in
    let e = p + begins + 3 + size + steps + (test_or_1 h.0.test).size in
    let start = (statements h.0.first).code l g p in
    let o = p + length start in
    let code = (statements inner).code e s (o + 1 + 1) in
    let q = o + 1 + 1 + length code in
    let step = (step_or_none h.0.step).code q in
    let r = q + length step in
    let tests = (test_or_1 h.0.test).code r in
    append_fits passes start (Jump c ∷ Pay line ∷ (code ++ (step ++ (tests ++ JumpNotZero b ∷ []))))
    (h.1 heads.0 l g p)
    (append_fits passes code (step ++ (tests ++ JumpNotZero b ∷ [])) (body_calls passes body parts.1 e s (o + 1 + 1))
    (append_fits passes step (tests ++ JumpNotZero b ∷ []) (step_calls passes h.0.step heads.1 q)
    (append_fits passes tests (JumpNotZero b ∷ []) (test_calls passes h.0.test r) refl)))))
layer_calls passes (SlotStmt-F.Do line body test) =
    let inner = map (λ s. s.0) body in
    subst (Holds passes) (sym (rolls-Do line inner test))
    (by_form passes (Do line inner test) (do_block line (statements inner) (expression test))
    (tree_calls_pass passes inner)
    (statement-Do line inner test) (calls-Do passes line inner test)
    (λ fits l g p.
    let size = (statements inner).size in
    let e = p + 2 + size + (expression test).size in
    let code = (statements inner).code e (p + 1 + size) (p + 1) in
    let q = p + 1 + length code in
    append_fits passes code ((expression test).code q ++ JumpNotZero p ∷ [])
    (body_calls passes body fits e (p + 1 + size) (p + 1))
    (append_fits passes ((expression test).code q) (JumpNotZero p ∷ []) (expression_calls passes test q) refl)))
layer_calls passes (SlotStmt-F.Loop line input body) =
    let inner = map (λ s. s.0) body in
    subst (Holds passes) (sym (rolls-Loop line input inner))
    (by_form passes (Loop line input inner) (loop_block line input (statements inner)) (tree_calls_pass passes inner)
    (statement-Loop line input inner) (calls-Loop passes line input inner)
    (λ fits l g p.
    let t = p + 3 + (statements inner).size in
    let code = (statements inner).code t (p + 1) (p + 1 + 1) in
    append_fits passes code (Jump (p + 1) ∷ Leave input ∷ []) (body_calls passes body fits t (p + 1) (p + 1 + 1)) refl))
layer_calls passes (SlotStmt-F.Return e) =
    subst (Holds passes) (sym (rolls-Return e))
    (by_free passes (stmt.Return e) (plain (both (expression e) (one Return))) (statement-Return e)
    (λ l g p. both_fit passes (expression e) (one Return) (expression_calls passes e) (λ q. refl) p))
layer_calls passes SlotStmt-F.Break =
    subst (Holds passes) (sym rolls-Break) (by_free passes Break break_block statement-Break (λ l g p. refl))
layer_calls passes SlotStmt-F.Continue =
    subst (Holds passes) (sym rolls-Continue)
    (by_free passes Continue continue_block statement-Continue (λ l g p. refl))

-- every statement
statement_calls : (passes : ℕ → ℕ → Bool) (s : SlotStmt) → Holds passes s
statement_calls passes =
    ind-SlotStmt (Holds passes) (HoldsArm passes) (HoldsHead passes)
    (λ x y e. subst (λ z. Holds passes (roll-SlotStmt z)) e (layer_calls passes y))
    (λ x y e. subst (HoldsBody passes) (λ i. (e i).body) (body_calls passes y.body))
    (λ x y e. subst (HoldsBody passes) (λ i. (e i).first) (body_calls passes y.first))

-- statements
statements_calls : (passes : ℕ → ℕ → Bool) (body : List SlotStmt) → HoldsBody passes body
statements_calls passes [] fits leave again p = refl
statements_calls passes (s ∷ body) fits leave again p =
    let front = (statement s).code leave again p in
    let parts = and_parts (statement_calls_pass passes s) (tree_calls_pass passes body) fits in
    append_fits passes front ((statements body).code leave again (p + length front))
    (statement_calls passes s parts.0 leave again p)
    (statements_calls passes body parts.1 leave again (p + length front))

-- the calls of the code pass where those of the tree do
pub emitted_calls :
    (passes : ℕ → ℕ → Bool) (tree : List SlotStmt)
    → tree_calls_pass passes tree ≡ true
    → list_all (call_passes passes) (emitted tree) ≡ true
emitted_calls passes tree fits =
    let size = (statements tree).size in
    append_fits passes ((statements tree).code size size 0) (Push (pos 0) ∷ Return ∷ [])
    (statements_calls passes tree fits size size 0) refl
