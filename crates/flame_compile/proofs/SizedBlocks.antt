-- Every statement is as long as its size says, wherever it begins and wherever `break` and `continue` go.
use Rattle.std.proofs.Common.{◌≡◌, ℕ, ◌+◌, List, [], ◌∷◌, length, map, refl, sym, subst, length-append, arith, Option, Some, None}
use Rattle.std.specs.Prelude.{pos}
use Rattle.flame_ops.specs.declared.integers.Op.{Op}
use Rattle.flame_body.specs.declared.slots.SlotArm.{SlotArm}
use Rattle.flame_body.specs.declared.slots.SlotAssign.{SlotAssign}
use Rattle.flame_body.specs.declared.slots.SlotDeed.{SlotDeed}
use Rattle.flame_body.specs.declared.slots.SlotDeed.TheVariants.{Sets, Sends, Bears, Calls}
use Rattle.flame_body.specs.declared.slots.SlotExpr.{SlotExpr}
use Rattle.flame_body.specs.declared.slots.SlotHead.{SlotHead}
use Rattle.flame_body.specs.declared.slots.SlotItem.{SlotItem}
use Rattle.flame_body.specs.declared.slots.SlotTarget.{SlotTarget}
use Rattle.flame_body.specs.declared.slots.SlotTarget.TheVariants as set
use Rattle.flame_body.specs.declared.slots.SlotValue.{SlotValue}
use Rattle.flame_body.specs.declared.slots.SlotValue.TheVariants as stored
use Rattle.flame_body.specs.declared.slots.SlotStmt.{SlotStmt, Empty, Declare, Assign, If, While, For, Do, Loop, Break, Continue, roll-SlotStmt, ind-SlotStmt, map-SlotStmt}
use Rattle.flame_body.specs.declared.slots.SlotStmt as stmt
use Rattle.flame_body.specs.declared.slots.SlotStmt.TheVariants.{rolls-Empty, rolls-Declare, rolls-Assign, rolls-Call, rolls-Block, rolls-If, rolls-While, rolls-For, rolls-Do, rolls-Loop, rolls-Return, rolls-Break, rolls-Continue}
use Rattle.flame_body.specs.declared.slots.SlotStmt.TheOpen.{SlotStmt-F}
use Rattle.flame_code.specs.declared.instrs.Instr.{Instr}
use Rattle.flame_code.specs.declared.instrs.Instr.TheVariants.{Push, SetLoc, Call, Jump, JumpZero, JumpNotZero, Pay, Enter, Next, Leave, Return}
use Rattle.flame_compile.specs.Pieces.{Piece, row, one, both, in_order, Block, going, plain}
use Rattle.flame_compile.specs.Emit.{Arm, Head, arguments, value, initial, item, index, loaded, store, operator, assign, assignment, deed, expression}
use Rattle.flame_compile.specs.Emit.{test_or_1, step_or_none, arm_size, arms_size, arm_code, arm_piece, arms_code, if_block, while_block, for_block, do_block, loop_block, break_block, continue_block, statement, statements, arm, head}
use Rattle.flame_compile.specs.Sizes.{IsSized, IsSizedBlock}
use Rattle.flame_compile.proofs.Forms.{statement-Empty, statement-Declare, statement-Assign, statement-Call, statement-Block, statement-If, statement-While, statement-For, statement-Do, statement-Loop, statement-Return, statement-Break, statement-Continue}
use Rattle.flame_compile.proofs.Sized.{row_sized, both_sized, expression_sized, arguments_sized}

-- ---- what is stored

value_sized : (v : SlotValue) → IsSized (value v)
value_sized (stored.Plain e) = expression_sized e
value_sized (stored.Call line helper es) =
    let last = Call line helper (length es) in
    both_sized (arguments es) (one last) (arguments_sized es) (row_sized (last ∷ []))

initial_sized : (v : Option SlotValue) → IsSized (initial v)
initial_sized None = row_sized (Push (pos 0) ∷ [])
initial_sized (Some v) = value_sized v

items_sized : (items : List SlotItem) → IsSized (in_order (map item items))
items_sized [] = row_sized []
items_sized (i ∷ items) =
    both_sized (item i) (in_order (map item items))
    (both_sized (initial i.value) (one (SetLoc i.local)) (initial_sized i.value) (row_sized (SetLoc i.local ∷ [])))
    (items_sized items)

index_sized : (target : SlotTarget) → IsSized (index target)
index_sized (set.Local number) = row_sized []
index_sized (set.Memory column) = row_sized []
index_sized (set.Element cells e) = expression_sized e.index

loaded_sized : (target : SlotTarget) → IsSized (loaded target)
loaded_sized (set.Local number) = λ p. refl
loaded_sized (set.Memory column) = λ p. refl
loaded_sized (set.Element cells e) = λ p. refl

in_order_2 : (a b : Piece) → IsSized a → IsSized b → IsSized (in_order (a ∷ b ∷ []))
in_order_2 a b ha hb = both_sized a _ ha (both_sized b (row []) hb (row_sized []))

one_sized : (i : Instr) → IsSized (one i)
one_sized i = row_sized (i ∷ [])

assign_sized : (target : SlotTarget) (o : Option Op) (line : ℕ) (v : SlotValue) → IsSized (assign target o line v)
assign_sized target None line v =
    let last = one (store target) in
    both_sized (index target) (in_order (value v ∷ last ∷ [])) (index_sized target)
    (in_order_2 (value v) last (value_sized v) (one_sized (store target)))
assign_sized target (Some o) line v =
    let operates = one (operator o line) in
    let last = one (store target) in
    both_sized (index target) (in_order (loaded target ∷ value v ∷ operates ∷ last ∷ [])) (index_sized target)
    (both_sized (loaded target) (in_order (value v ∷ operates ∷ last ∷ [])) (loaded_sized target)
    (both_sized (value v) (in_order (operates ∷ last ∷ [])) (value_sized v)
    (in_order_2 operates last (one_sized (operator o line)) (one_sized (store target)))))

assignment_sized : (a : SlotAssign) → IsSized (assignment a)
assignment_sized a = assign_sized a.target a.op a.op_line a.value

deed_sized : (d : SlotDeed) (n : ℕ) → IsSized (deed d n)
deed_sized (Sets column) n = λ p. refl
deed_sized (Sends message) n = λ p. refl
deed_sized (Bears agent) n = λ p. refl
deed_sized (Calls line helper) n = λ p. refl

pub test_sized : (test : Option SlotExpr) → IsSized (test_or_1 test)
test_sized None = one_sized (Push (pos 1))
test_sized (Some e) = expression_sized e

pub step_sized : (step : Option SlotAssign) → IsSized (step_or_none step)
step_sized None = row_sized []
step_sized (Some a) = assignment_sized a

-- ---- statements

abbrev Sized : SlotStmt → Type 0
Sized s = (leave again p : ℕ) → length ((statement s).code leave again p) ≡ (statement s).size

abbrev SizedBody : List SlotStmt → Type 0
SizedBody body = (leave again p : ℕ) → length ((statements body).code leave again p) ≡ (statements body).size

abbrev SizedArm : SlotArm → Type 0
SizedArm a = SizedBody a.body

abbrev SizedHead : SlotHead → Type 0
SizedHead h = SizedBody h.first

body_sized : (ss : List ((s : SlotStmt) × Sized s)) → SizedBody (map (λ s. s.0) ss)
body_sized [] leave again p = refl
body_sized (s ∷ ss) leave again p =
    let front = (statement s.0).code leave again p in
    omega (
      arith,
      length-append front ((statements (map (λ s. s.0) ss)).code leave again (p + length front)),
      s.1 leave again p,
      body_sized ss leave again (p + length front),
    )

pub arm_sized : (a : Arm) → IsSized a.test → IsSizedBlock a.body → (leave again n e p : ℕ)
    → length ((arm_code a leave again n e).code p) ≡ arm_size a
arm_sized a ht hb leave again n e p =
    let body = going leave again a.body in
    let whole = both_sized a.test (in_order (one (JumpZero n) ∷ body ∷ one (Jump e) ∷ [])) ht
    (both_sized (one (JumpZero n)) (in_order (body ∷ one (Jump e) ∷ [])) (one_sized (JumpZero n))
    (in_order_2 body (one (Jump e)) (hb leave again) (one_sized (Jump e)))) p in
    omega (arith, whole)

arms_sized : (tests : List ((a : SlotArm) × SizedArm a)) (leave again e p : ℕ)
    → length ((arms_code (map arm (map (λ a. a.0) tests)) leave again e).code p)
    ≡ arms_size (map arm (map (λ a. a.0) tests))
arms_sized [] leave again e p = refl
arms_sized (a ∷ tests) leave again e p =
    let front = (arm_piece (arm a.0) leave again e).code p in
    let rest = arms_code (map arm (map (λ a. a.0) tests)) leave again e in
    omega (
      arith,
      length-append front (rest.code (p + length front)),
      arm_sized (arm a.0) (expression_sized a.0.test) a.1 leave again (p + arm_size (arm a.0)) e p,
      arms_sized tests leave again e (p + length front),
    )

by_form : (s : SlotStmt) (block : Block) → statement s ≡ block → IsSizedBlock block → Sized s
by_form s block is h = subst IsSizedBlock (sym is) h

while_sized : (line : ℕ) (test : Piece) (body : Block) → IsSized test → IsSizedBlock body
    → IsSizedBlock (while_block line test body)
while_sized line test body ht hb leave again p =
    let b = p + 1 in
    let c = p + 2 + body.size in
    let e = p + 3 + body.size + test.size in
    let inner = going e c body in
    let last = one (JumpNotZero b) in
    let whole = both_sized (one (Jump c)) (in_order (one (Pay line) ∷ inner ∷ test ∷ last ∷ [])) (one_sized (Jump c))
    (both_sized (one (Pay line)) (in_order (inner ∷ test ∷ last ∷ [])) (one_sized (Pay line))
    (both_sized inner (in_order (test ∷ last ∷ [])) (hb e c)
    (in_order_2 test last ht (one_sized (JumpNotZero b))))) p in
    omega (arith, whole)

do_sized : (line : ℕ) (body : Block) (test : Piece) → IsSizedBlock body → IsSized test
    → IsSizedBlock (do_block line body test)
do_sized line body test hb ht leave again p =
    let c = p + 1 + body.size in
    let e = p + 2 + body.size + test.size in
    let inner = going e c body in
    let last = one (JumpNotZero p) in
    let whole = both_sized (one (Pay line)) (in_order (inner ∷ test ∷ last ∷ [])) (one_sized (Pay line))
    (both_sized inner (in_order (test ∷ last ∷ [])) (hb e c)
    (in_order_2 test last ht (one_sized (JumpNotZero p)))) p in
    omega (arith, whole)

loop_sized : (line input : ℕ) (body : Block) → IsSizedBlock body → IsSizedBlock (loop_block line input body)
loop_sized line input body hb leave again p =
    let b = p + 1 in
    let t = p + 3 + body.size in
    let inner = going t b body in
    let back = one (Jump b) in
    let last = one (Leave input) in
    let whole = both_sized (one (Enter input)) (in_order (one (Next line input t) ∷ inner ∷ back ∷ last ∷ []))
    (one_sized (Enter input))
    (both_sized (one (Next line input t)) (in_order (inner ∷ back ∷ last ∷ [])) (one_sized (Next line input t))
    (both_sized inner (in_order (back ∷ last ∷ [])) (hb t b)
    (in_order_2 back last (one_sized (Jump b)) (one_sized (Leave input))))) p in
    omega (arith, whole)

for_sized : (line : ℕ) (h : Head) (body : Block)
    → IsSizedBlock h.first → IsSized h.test → IsSized h.step → IsSizedBlock body
    → IsSizedBlock (for_block line h body)
for_sized line h body hf ht hs hb leave again p =
    let b = p + h.first.size + 1 in
    let s = p + h.first.size + 2 + body.size in
    let c = p + h.first.size + 2 + body.size + h.step.size in
    let e = p + h.first.size + 3 + body.size + h.step.size + h.test.size in
    let first = going leave again h.first in
    let inner = going e s body in
    let last = one (JumpNotZero b) in
    let whole = both_sized first (in_order (one (Jump c) ∷ one (Pay line) ∷ inner ∷ h.step ∷ h.test ∷ last ∷ []))
    (hf leave again)
    (both_sized (one (Jump c)) (in_order (one (Pay line) ∷ inner ∷ h.step ∷ h.test ∷ last ∷ [])) (one_sized (Jump c))
    (both_sized (one (Pay line)) (in_order (inner ∷ h.step ∷ h.test ∷ last ∷ [])) (one_sized (Pay line))
    (both_sized inner (in_order (h.step ∷ h.test ∷ last ∷ [])) (hb e s)
    (both_sized h.step (in_order (h.test ∷ last ∷ [])) hs
    (in_order_2 h.test last ht (one_sized (JumpNotZero b))))))) p in
    omega (arith, whole)

abbrev firsts :
    SlotStmt-F ((s : SlotStmt) × Sized s) ((a : SlotArm) × SizedArm a) ((h : SlotHead) × SizedHead h)
    → SlotStmt-F SlotStmt SlotArm SlotHead
firsts =
    map-SlotStmt ((s : SlotStmt) × Sized s) ((a : SlotArm) × SizedArm a) ((h : SlotHead) × SizedHead h)
    SlotStmt SlotArm SlotHead (λ s. s.0) (λ a. a.0) (λ h. h.0)

layer_sized :
    (y : SlotStmt-F ((s : SlotStmt) × Sized s) ((a : SlotArm) × SizedArm a) ((h : SlotHead) × SizedHead h))
    → Sized (roll-SlotStmt (firsts y))
layer_sized SlotStmt-F.Empty =
    subst Sized (sym rolls-Empty) (by_form Empty (plain (row [])) statement-Empty (λ l g p. refl))
layer_sized (SlotStmt-F.Declare items) =
    subst Sized (sym (rolls-Declare items))
    (by_form (Declare items) (plain (in_order (map item items))) (statement-Declare items)
    (λ l g p. items_sized items p))
layer_sized (SlotStmt-F.Assign a) =
    subst Sized (sym (rolls-Assign a))
    (by_form (Assign a) (plain (assignment a)) (statement-Assign a) (λ l g p. assignment_sized a p))
layer_sized (SlotStmt-F.Call d es) =
    let done = deed d (length es) in
    subst Sized (sym (rolls-Call d es))
    (by_form (stmt.Call d es) (plain (both (arguments es) done)) (statement-Call d es)
    (λ l g p. both_sized (arguments es) done (arguments_sized es) (deed_sized d (length es)) p))
layer_sized (SlotStmt-F.Block body) =
    let inner = map (λ s. s.0) body in
    subst Sized (sym (rolls-Block inner))
    (by_form (stmt.Block inner) (statements inner) (statement-Block inner) (body_sized body))
layer_sized (SlotStmt-F.If tests otherwise) =
    let arms = map (λ a. a.0) tests in
    let inner = map (λ s. s.0) otherwise in
    subst Sized (sym (rolls-If arms inner))
    (by_form (If arms inner) (if_block (map arm arms) (statements inner)) (statement-If arms inner)
    (λ l g p.
    let end = p + arms_size (map arm arms) + (statements inner).size in
    let front = (arms_code (map arm arms) l g end).code p in
    omega (
      arith,
      length-append front ((statements inner).code l g (p + length front)),
      arms_sized tests l g end p,
      body_sized otherwise l g (p + length front),
    )))
layer_sized (SlotStmt-F.While line test body) =
    let inner = map (λ s. s.0) body in
    subst Sized (sym (rolls-While line test inner))
    (by_form (While line test inner) (while_block line (expression test) (statements inner))
    (statement-While line test inner)
    (while_sized line (expression test) (statements inner) (expression_sized test) (body_sized body)))
layer_sized (SlotStmt-F.For line h body) =
    let inner = map (λ s. s.0) body in
    subst Sized (sym (rolls-For line h.0 inner))
    (by_form (For line h.0 inner) (for_block line (head h.0) (statements inner)) (statement-For line h.0 inner)
    (for_sized line (head h.0) (statements inner) h.1 (test_sized h.0.test) (step_sized h.0.step) (body_sized body)))
layer_sized (SlotStmt-F.Do line body test) =
    let inner = map (λ s. s.0) body in
    subst Sized (sym (rolls-Do line inner test))
    (by_form (Do line inner test) (do_block line (statements inner) (expression test)) (statement-Do line inner test)
    (do_sized line (statements inner) (expression test) (body_sized body) (expression_sized test)))
layer_sized (SlotStmt-F.Loop line input body) =
    let inner = map (λ s. s.0) body in
    subst Sized (sym (rolls-Loop line input inner))
    (by_form (Loop line input inner) (loop_block line input (statements inner)) (statement-Loop line input inner)
    (loop_sized line input (statements inner) (body_sized body)))
layer_sized (SlotStmt-F.Return e) =
    subst Sized (sym (rolls-Return e))
    (by_form (stmt.Return e) (plain (both (expression e) (one Return))) (statement-Return e)
    (λ l g p. both_sized (expression e) (one Return) (expression_sized e) (one_sized Return) p))
layer_sized SlotStmt-F.Break = subst Sized (sym rolls-Break) (by_form Break break_block statement-Break (λ l g p. refl))
layer_sized SlotStmt-F.Continue =
    subst Sized (sym rolls-Continue) (by_form Continue continue_block statement-Continue (λ l g p. refl))

-- a statement is as long as its size says
pub statement_sized : (s : SlotStmt) → IsSizedBlock (statement s)
statement_sized =
    ind-SlotStmt Sized SizedArm SizedHead
    (λ x y e. subst (λ z. Sized (roll-SlotStmt z)) e (layer_sized y))
    (λ x y e. subst SizedBody (λ i. (e i).body) (body_sized y.body))
    (λ x y e. subst SizedBody (λ i. (e i).first) (body_sized y.first))

pub statements_sized : (body : List SlotStmt) → IsSizedBlock (statements body)
statements_sized [] leave again p = refl
statements_sized (s ∷ body) leave again p =
    let front = (statement s).code leave again p in
    omega (
      arith,
      length-append front ((statements body).code leave again (p + length front)),
      statement_sized s leave again p,
      statements_sized body leave again (p + length front),
    )
