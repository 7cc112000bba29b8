-- What each form of a body becomes: the instructions in order, one form a line. The places to which a form jumps stand
-- in its own definition.
use Rattle.std.specs.Prelude.{ℕ, zero, suc, ◌+◌, pos, List, [], ◌∷◌, ◌++◌, length, map, Option, Some, None}
use Rattle.flame_ops.specs.declared.integers.Op.{Op}
use Rattle.flame_ops.specs.declared.integers.Op.TheVariants as op
use Rattle.flame_spec.specs.declared.trees.Sign.{Sign}
use Rattle.flame_spec.specs.declared.trees.SignKind.{SignKind}
use Rattle.flame_spec.specs.declared.trees.SignKind.TheVariants.{Minus, Plus, Bang}
use Rattle.flame_spec.specs.Columns.{width_by}
use Rattle.flame_body.specs.declared.slots.Slot.{Slot}
use Rattle.flame_body.specs.declared.slots.Slot.TheVariants.{Local, Memory, Constant, Iteration}
use Rattle.flame_body.specs.declared.slots.SlotDeed.{SlotDeed}
use Rattle.flame_body.specs.declared.slots.SlotDeed.TheVariants.{Sets, Sends, Bears, Calls}
use Rattle.flame_body.specs.declared.slots.Span.{Span}
use Rattle.flame_body.specs.declared.slots.SlotExpr.{SlotExpr, fold-SlotExpr}
use Rattle.flame_body.specs.declared.slots.SlotExpr.TheOpen.{SlotExpr-F, SlotLink-F, SlotSubscript-F}
use Rattle.flame_body.specs.declared.slots.SlotLink.{SlotLink}
use Rattle.flame_body.specs.declared.slots.SlotValue.{SlotValue}
use Rattle.flame_body.specs.declared.slots.SlotValue.TheVariants as stored
use Rattle.flame_body.specs.declared.slots.SlotItem.{SlotItem}
use Rattle.flame_body.specs.declared.slots.SlotTarget.{SlotTarget}
use Rattle.flame_body.specs.declared.slots.SlotTarget.TheVariants as set
use Rattle.flame_body.specs.declared.slots.SlotAssign.{SlotAssign}
use Rattle.flame_body.specs.declared.slots.SlotStmt.{SlotStmt, fold-SlotStmt}
use Rattle.flame_body.specs.declared.slots.SlotStmt.TheOpen.{SlotStmt-F, SlotArm-F, SlotHead-F}
use Rattle.flame_body.specs.declared.slots.SlotArm.{SlotArm}
use Rattle.flame_body.specs.declared.slots.SlotHead.{SlotHead}
use Rattle.flame_code.specs.declared.instrs.Instr.{Instr}
use Rattle.flame_code.specs.declared.instrs.Instr.TheVariants.{Push, Dup, Drop, Loc, SetLoc, Mem, SetMem, MemAt, SetMemAt}
use Rattle.flame_code.specs.declared.instrs.Instr.TheVariants.{Const, Iter, Field, FieldAt, Neg, Not, Add, Sub, Mul, Div, Rem}
use Rattle.flame_code.specs.declared.instrs.Instr.TheVariants.{Lt, Gt, Le, Ge, Eq, Ne, Jump, JumpZero, JumpNotZero, Pay}
use Rattle.flame_code.specs.declared.instrs.Instr.TheVariants.{Enter, Next, Leave, Send, Bear, Call, Return}
use Rattle.flame_compile.specs.Pieces.{Piece, row, one, both, in_order, placed, Block, going, standing, plain, in_turn}

-- ---- operators

-- a binary operator with its line; a comparison has no fault, and no line [C, 6.5.5, 6.5.6, 6.5.8, 6.5.9]
abbrev pub operator : Op → ℕ → Instr
operator op.Add line = Add line
operator op.Sub line = Sub line
operator op.Mul line = Mul line
operator op.Div line = Div line
operator op.Rem line = Rem line
operator op.Lt line = Lt
operator op.Gt line = Gt
operator op.Le line = Le
operator op.Ge line = Ge
operator op.Eq line = Eq
operator op.Ne line = Ne

-- a sign; a `+` does nothing [C, 6.5.3.3]
abbrev pub sign_code : SignKind → ℕ → List Instr
sign_code Minus line = Neg line ∷ []
sign_code Plus line = []
sign_code Bang line = Not ∷ []

-- signs, from the innermost outwards; in the text the innermost is the last [C, 6.5.3.3]
abbrev pub signs_code : List Sign → List Instr
signs_code [] = []
signs_code (sign ∷ signs) = signs_code signs ++ sign_code sign.kind sign.line

-- ---- variables

-- the instruction that reads a column: of the memory, or of the current row of an input [own]
abbrev pub column_of : Option ℕ → ℕ → Instr
column_of None column = Mem column
column_of (Some input) column = Field input column

-- so many columns from this one on, each by its own instruction [own]
abbrev pub each_column : (ℕ → Instr) → ℕ → ℕ → List Instr
each_column load column zero = []
each_column load column (suc count) = load column ∷ each_column load (column + 1) count

-- all columns of a variable, in order: one of a single variable, of an array as many as it is long [own]
abbrev pub columns : (ℕ → Instr) → Span → List Instr
columns load span = each_column load span.column (width_by span.length)

-- a name that is read; only as an argument it is an array without an index [own]
abbrev pub load : Slot → List Instr
load (Local number) = Loc number ∷ []
load (Memory span) = columns (column_of None) span
load (Constant number) = Const number ∷ []
load Iteration = Iter ∷ []

-- ---- expressions

-- which element of an array: the line of the `[`, and the index [own]
pub record Element : Type 0 where
  pub line : ℕ
  pub index : Piece

-- how many instructions parts have with a jump behind each [own]
abbrev pub tested_size : List Piece → ℕ
tested_size [] = 0
tested_size (part ∷ parts) = part.size + 1 + tested_size parts

-- each part with this instruction behind it [own]
abbrev pub tested : Instr → List Piece → Piece
tested jump parts = in_order (map (λ part. both part (one jump)) parts)

-- `&&`: each part with a jump to F behind it; F and E are places [C, 6.5.13]
abbrev pub all_code : List Piece → ℕ → ℕ → Piece
all_code parts f e =
    in_order (tested (JumpZero f) parts ∷ one (Push (pos 1)) ∷ one (Jump e) ∷ one (Push (pos 0)) ∷ [])

-- `||`: likewise, with jumps to T [C, 6.5.14]
abbrev pub any_code : List Piece → ℕ → ℕ → Piece
any_code parts t e =
    in_order (tested (JumpNotZero t) parts ∷ one (Push (pos 0)) ∷ one (Jump e) ∷ one (Push (pos 1)) ∷ [])

-- an expression, whose parts are pieces already [C, 6.5; FLAME User Manual]
abbrev pub expression_step : SlotExpr-F Piece Piece Element → Piece
expression_step (SlotExpr-F.Number n) = one (Push n)
expression_step (SlotExpr-F.Name slot) = row (load slot)
expression_step (SlotExpr-F.Field input span) = row (columns (column_of (Some input)) span)
expression_step (SlotExpr-F.Get column) = one (Mem column)
expression_step (SlotExpr-F.At cells e) = both e.index (one (MemAt e.line cells.column cells.length))
expression_step (SlotExpr-F.FieldAt input cells e) =
    both e.index (one (FieldAt e.line input cells.column cells.length))
expression_step (SlotExpr-F.Unary signs e) = both e (row (signs_code signs))
expression_step (SlotExpr-F.Chain e links) = both e (in_order links)
expression_step (SlotExpr-F.All parts) =
    placed (tested_size parts + 3) (λ p. all_code parts (p + tested_size parts + 2) (p + tested_size parts + 3))
expression_step (SlotExpr-F.Any parts) =
    placed (tested_size parts + 3) (λ p. any_code parts (p + tested_size parts + 2) (p + tested_size parts + 3))

-- an operand, and behind it its operator [own]
abbrev pub link_step : SlotLink-F Piece Piece Element → Piece
link_step link = both link.right (one (operator link.op link.line))

-- an index and its line [own]
abbrev pub element_step : SlotSubscript-F Piece Piece Element → Element
element_step subscript = record { line = subscript.line; index = subscript.index }

-- the code of an expression [own]
abbrev pub expression : SlotExpr → Piece
expression = fold-SlotExpr Piece Piece Element expression_step link_step element_step

-- an operand, and behind it its operator [own]
abbrev pub link : SlotLink → Piece
link l = both (expression l.right) (one (operator l.op l.line))

-- arguments in order [own]
abbrev pub arguments : List SlotExpr → Piece
arguments es = in_order (map expression es)

-- ---- what is stored

-- the value that is stored; the call of a helper has its arguments before it [C, 6.5.2.2]
abbrev pub value : SlotValue → Piece
value (stored.Plain e) = expression e
value (stored.Call line helper es) = both (arguments es) (one (Call line helper (length es)))

-- the value with which a local begins, or 0 [own]
abbrev pub initial : Option SlotValue → Piece
initial None = one (Push (pos 0))
initial (Some v) = value v

-- a local that is declared [C, 6.7.9]
abbrev pub item : SlotItem → Piece
item i = both (initial i.value) (one (SetLoc i.local))

-- the index of an element that is set [C, 6.5.16]
abbrev pub index : SlotTarget → Piece
index (set.Local number) = row []
index (set.Memory column) = row []
index (set.Element cells e) = expression e.index

-- what is set is read; of an element the index is on the stack, and stays there [C, 6.5.16.2]
abbrev pub loaded : SlotTarget → Piece
loaded (set.Local number) = one (Loc number)
loaded (set.Memory column) = one (Mem column)
loaded (set.Element cells e) = in_order (one Dup ∷ one (MemAt e.line cells.column cells.length) ∷ [])

-- the value on the stack is stored [C, 6.5.16]
abbrev pub store : SlotTarget → Instr
store (set.Local number) = SetLoc number
store (set.Memory column) = SetMem column
store (set.Element cells e) = SetMemAt e.line cells.column cells.length

-- an assignment without an operator [C, 6.5.16.1]
abbrev pub set_code : SlotTarget → SlotValue → Piece
set_code target v = in_order (index target ∷ value v ∷ one (store target) ∷ [])

-- an assignment with an operator [C, 6.5.16.2]
abbrev pub change_code : SlotTarget → Op → ℕ → SlotValue → Piece
change_code target o line v =
    in_order (index target ∷ loaded target ∷ value v ∷ one (operator o line) ∷ one (store target) ∷ [])

-- an assignment with an operator or without [C, 6.5.16]
abbrev pub assign : SlotTarget → Option Op → ℕ → SlotValue → Piece
assign target None line v = set_code target v
assign target (Some o) line v = change_code target o line v

-- an assignment [C, 6.5.16]
abbrev pub assignment : SlotAssign → Piece
assignment a = assign a.target a.op a.op_line a.value

-- what a call statement does with so many arguments; what a helper returns is dropped [FLAME User Manual; C, 6.8.3]
abbrev pub deed : SlotDeed → ℕ → Piece
deed (Sets column) count = one (SetMem column)
deed (Sends message) count = one (Send message)
deed (Bears agent) count = one (Bear agent)
deed (Calls line helper) count = in_order (one (Call line helper count) ∷ one Drop ∷ [])

-- ---- statements

-- a test and the body that runs where it holds [own]
pub record Arm : Type 0 where
  pub test : Piece
  pub body : Block

-- the head of a `for` [own]
pub record Head : Type 0 where
  pub first : Block
  pub test : Piece
  pub step : Piece

-- a test of a `for`, or 1 [C, 6.8.5.3]
abbrev pub test_or_1 : Option SlotExpr → Piece
test_or_1 None = one (Push (pos 1))
test_or_1 (Some e) = expression e

-- a step of a `for`, or nothing [C, 6.8.5.3]
abbrev pub step_or_none : Option SlotAssign → Piece
step_or_none None = row []
step_or_none (Some a) = assignment a

-- how many instructions an arm has: its jumps go behind the test and behind the body [own]
abbrev pub arm_size : Arm → ℕ
arm_size a = a.test.size + 1 + a.body.size + 1

-- how many instructions arms have together [own]
abbrev pub arms_size : List Arm → ℕ
arms_size [] = 0
arms_size (a ∷ arms) = arm_size a + arms_size arms

-- an arm of an `if`: N is the place behind the arm, E that behind the whole [C, 6.8.4.1]
abbrev pub arm_code : Arm → ℕ → ℕ → ℕ → ℕ → Piece
arm_code a leave again n e = in_order (a.test ∷ one (JumpZero n) ∷ going leave again a.body ∷ one (Jump e) ∷ [])

-- an arm by the place where it begins [own]
abbrev pub arm_piece : Arm → ℕ → ℕ → ℕ → Piece
arm_piece a leave again e = placed (arm_size a) (λ p. arm_code a leave again (p + arm_size a) e)

-- the arms of an `if` in order, each with its jump to the whole's end E [C, 6.8.4.1]
abbrev pub arms_code : List Arm → ℕ → ℕ → ℕ → Piece
arms_code [] leave again e = row []
arms_code (a ∷ arms) leave again e = both (arm_piece a leave again e) (arms_code arms leave again e)

-- `if`: the arms, and then the body of the last `else` [C, 6.8.4.1]
abbrev pub if_code : List Arm → Block → ℕ → ℕ → ℕ → Piece
if_code arms otherwise leave again e = both (arms_code arms leave again e) (going leave again otherwise)

-- `while`: Jump C, B: Pay, body, C: test, JumpNotZero B, E:. In the body `break` goes to E, `continue` to C
-- [C, 6.8.5.1]
abbrev pub while_code : ℕ → Piece → Block → ℕ → ℕ → ℕ → Piece
while_code line test body b c e =
    in_order (one (Jump c) ∷ one (Pay line) ∷ going e c body ∷ test ∷ one (JumpNotZero b) ∷ [])

-- `for`: first, Jump C, B: Pay, body, S: step, C: test, JumpNotZero B, E:. In the body `break` goes to E, `continue`
-- to S [C, 6.8.5.3]
abbrev pub for_code : ℕ → Head → Block → ℕ → ℕ → ℕ → ℕ → ℕ → ℕ → Piece
for_code line head body leave again b s c e =
    in_order (going leave again head.first ∷ one (Jump c) ∷ one (Pay line) ∷ going e s body ∷ head.step ∷ head.test
    ∷ one (JumpNotZero b) ∷ [])

-- `do`: B: Pay, body, C: test, JumpNotZero B, E:. In the body `break` goes to E, `continue` to C [C, 6.8.5.2]
abbrev pub do_code : ℕ → Block → Piece → ℕ → ℕ → ℕ → Piece
do_code line body test b c e = in_order (one (Pay line) ∷ going e c body ∷ test ∷ one (JumpNotZero b) ∷ [])

-- a message loop: Enter, B: Next T, body, Jump B, T: Leave. In the body `break` goes to T, `continue` to B
-- [FLAME User Manual]
abbrev pub loop_code : ℕ → ℕ → Block → ℕ → ℕ → Piece
loop_code line input body b t =
    in_order (one (Enter input) ∷ one (Next line input t) ∷ going t b body ∷ one (Jump b) ∷ one (Leave input) ∷ [])

-- ---- where the parts of statements stand, by the place where the statement begins

-- `if` [own]
abbrev pub if_block : List Arm → Block → Block
if_block arms otherwise = standing (arms_size arms + otherwise.size) (λ leave again p.
    if_code arms otherwise leave again (p + arms_size arms + otherwise.size))

-- `while` [own]
abbrev pub while_block : ℕ → Piece → Block → Block
while_block line test body = standing (body.size + test.size + 3) (λ leave again p.
    while_code line test body (p + 1) (p + 2 + body.size) (p + 3 + body.size + test.size))

-- `for` [own]
abbrev pub for_block : ℕ → Head → Block → Block
for_block line head body =
    standing (head.first.size + body.size + head.step.size + head.test.size + 3) (λ leave again p.
    for_code line head body leave again
    (p + head.first.size + 1)
    (p + head.first.size + 2 + body.size)
    (p + head.first.size + 2 + body.size + head.step.size)
    (p + head.first.size + 3 + body.size + head.step.size + head.test.size))

-- `do` [own]
abbrev pub do_block : ℕ → Block → Piece → Block
do_block line body test = standing (body.size + test.size + 2) (λ leave again p.
    do_code line body test p (p + 1 + body.size) (p + 2 + body.size + test.size))

-- a message loop [own]
abbrev pub loop_block : ℕ → ℕ → Block → Block
loop_block line input body = standing (body.size + 4) (λ leave again p.
    loop_code line input body (p + 1) (p + 3 + body.size))

-- `break` [C, 6.8.6.3]
abbrev pub break_block : Block
break_block = standing 1 (λ leave again p. one (Jump leave))

-- `continue` [C, 6.8.6.2]
abbrev pub continue_block : Block
continue_block = standing 1 (λ leave again p. one (Jump again))

-- a statement, whose parts are blocks already [C, 6.8; FLAME User Manual]
abbrev pub statement_step : SlotStmt-F Block Arm Head → Block
statement_step SlotStmt-F.Empty = plain (row [])
statement_step (SlotStmt-F.Declare items) = plain (in_order (map item items))
statement_step (SlotStmt-F.Assign a) = plain (assignment a)
statement_step (SlotStmt-F.Call d es) = plain (both (arguments es) (deed d (length es)))
statement_step (SlotStmt-F.Block body) = in_turn body
statement_step (SlotStmt-F.If arms otherwise) = if_block arms (in_turn otherwise)
statement_step (SlotStmt-F.While line test body) = while_block line (expression test) (in_turn body)
statement_step (SlotStmt-F.For line head body) = for_block line head (in_turn body)
statement_step (SlotStmt-F.Do line body test) = do_block line (in_turn body) (expression test)
statement_step (SlotStmt-F.Loop line input body) = loop_block line input (in_turn body)
statement_step (SlotStmt-F.Return e) = plain (both (expression e) (one Return))
statement_step SlotStmt-F.Break = break_block
statement_step SlotStmt-F.Continue = continue_block

-- a test and its body [own]
abbrev pub arm_step : SlotArm-F Block Arm Head → Arm
arm_step a = record { test = expression a.test; body = in_turn a.body }

-- the head of a `for` [own]
abbrev pub head_step : SlotHead-F Block Arm Head → Head
head_step h = record { first = in_turn h.first; test = test_or_1 h.test; step = step_or_none h.step }

-- the code of a statement [own]
abbrev pub statement : SlotStmt → Block
statement = fold-SlotStmt Block Arm Head statement_step arm_step head_step

-- the code of statements in order [own]
abbrev pub statements : List SlotStmt → Block
statements body = in_turn (map statement body)

-- a test and its body [own]
abbrev pub arm : SlotArm → Arm
arm a = record { test = expression a.test; body = statements a.body }

-- the head of a `for` [own]
abbrev pub head : SlotHead → Head
head h = record { first = statements h.first; test = test_or_1 h.test; step = step_or_none h.step }

-- ---- bodies

-- the statements of a body, and behind them the end of the function, which returns 0. In a body that fits its widths no
-- `break` and no `continue` leaves the statements; the places where they would go are E [C, 6.9.1; returns 0: own]
abbrev pub body_code : List SlotStmt → ℕ → Piece
body_code tree e = in_order (going e e (statements tree) ∷ one (Push (pos 0)) ∷ one Return ∷ [])

-- the code of a body: it begins at place 0 [own]
abbrev pub emitted : List SlotStmt → List Instr
emitted tree = (body_code tree (statements tree).size).code 0
