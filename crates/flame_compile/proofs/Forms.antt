-- What each form of a numbered tree becomes.
use Rattle.std.proofs.Common.{◌≡◌, ℕ, ◌+◌, List, map, rules}
use Rattle.std.specs.Prelude.{ℤ, [], length, Some}
use Rattle.flame_spec.specs.declared.trees.Sign.{Sign}
use Rattle.flame_body.specs.declared.slots.Cells.{Cells}
use Rattle.flame_body.specs.declared.slots.Slot.{Slot}
use Rattle.flame_body.specs.declared.slots.SlotDeed.{SlotDeed}
use Rattle.flame_body.specs.declared.slots.Span.{Span}
use Rattle.flame_body.specs.declared.slots.SlotExpr.{SlotExpr, Number, Name, Field, Get, At, FieldAt, Unary, Chain, All, Any, the_lemmas}
use Rattle.flame_body.specs.declared.slots.SlotLink.{SlotLink}
use Rattle.flame_body.specs.declared.slots.SlotSubscript.{SlotSubscript}
use Rattle.flame_body.specs.declared.slots.SlotItem.{SlotItem}
use Rattle.flame_body.specs.declared.slots.SlotAssign.{SlotAssign}
use Rattle.flame_body.specs.declared.slots.SlotStmt.{SlotStmt, Empty, Declare, Assign, Call, Block, If, While, For, Do, Loop, Return, Break, Continue, the_lemmas as stmt_lemmas}
use Rattle.flame_body.specs.declared.slots.SlotArm.{SlotArm}
use Rattle.flame_body.specs.declared.slots.SlotHead.{SlotHead}
use Rattle.flame_code.specs.declared.instrs.Instr.TheVariants as instr
use Rattle.flame_compile.specs.Pieces.{Piece, row, one, both, in_order, placed, plain}
use Rattle.flame_compile.specs.Emit.{signs_code, column_of, columns, load, tested_size, all_code, any_code, expression, link, arguments, item, assignment, deed}
use Rattle.flame_compile.specs.Emit.{arm, head, if_block, while_block, for_block, do_block, loop_block, break_block, continue_block, statement, statements}

pub expression-Number : (n : ℤ) → expression (Number n) ≡ one (instr.Push n)
expression-Number n = search (rules, the_lemmas)

pub expression-Name : (slot : Slot) → expression (Name slot) ≡ row (load slot)
expression-Name slot = search (rules, the_lemmas)

pub expression-Field :
    (input : ℕ) (span : Span) → expression (Field input span) ≡ row (columns (column_of (Some input)) span)
expression-Field input span = search (rules, the_lemmas)

pub expression-Get : (column : ℕ) → expression (Get column) ≡ one (instr.Mem column)
expression-Get column = search (rules, the_lemmas)

pub expression-At :
    (cells : Cells) (s : SlotSubscript)
    → expression (At cells s) ≡ both (expression s.index) (one (instr.MemAt s.line cells.column cells.length))
expression-At cells s = search (rules, the_lemmas)

pub expression-FieldAt :
    (input : ℕ) (cells : Cells) (s : SlotSubscript)
    → expression (FieldAt input cells s)
    ≡ both (expression s.index) (one (instr.FieldAt s.line input cells.column cells.length))
expression-FieldAt input cells s = search (rules, the_lemmas)

pub expression-Unary :
    (signs : List Sign) (e : SlotExpr) → expression (Unary signs e) ≡ both (expression e) (row (signs_code signs))
expression-Unary signs e = search (rules, the_lemmas)

pub expression-Chain :
    (e : SlotExpr) (links : List SlotLink)
    → expression (Chain e links) ≡ both (expression e) (in_order (map link links))
expression-Chain e links = search (rules, the_lemmas)

-- `&&`
abbrev pub all_piece : List Piece → Piece
all_piece parts =
    placed (tested_size parts + 3) (λ p. all_code parts (p + tested_size parts + 2) (p + tested_size parts + 3))

-- `||`
abbrev pub any_piece : List Piece → Piece
any_piece parts =
    placed (tested_size parts + 3) (λ p. any_code parts (p + tested_size parts + 2) (p + tested_size parts + 3))

pub expression-All : (parts : List SlotExpr) → expression (All parts) ≡ all_piece (map expression parts)
expression-All parts = search (rules, the_lemmas)

pub expression-Any : (parts : List SlotExpr) → expression (Any parts) ≡ any_piece (map expression parts)
expression-Any parts = search (rules, the_lemmas)

pub statement-Empty : statement Empty ≡ plain (row [])
statement-Empty = search (rules, stmt_lemmas)

pub statement-Declare : (items : List SlotItem) → statement (Declare items) ≡ plain (in_order (map item items))
statement-Declare items = search (rules, stmt_lemmas)

pub statement-Assign : (a : SlotAssign) → statement (Assign a) ≡ plain (assignment a)
statement-Assign a = search (rules, stmt_lemmas)

pub statement-Call :
    (d : SlotDeed) (es : List SlotExpr)
    → statement (Call d es) ≡ plain (both (arguments es) (deed d (length es)))
statement-Call d es = search (rules, stmt_lemmas)

pub statement-Block : (body : List SlotStmt) → statement (Block body) ≡ statements body
statement-Block body = search (rules, stmt_lemmas)

pub statement-If :
    (arms : List SlotArm) (otherwise : List SlotStmt)
    → statement (If arms otherwise) ≡ if_block (map arm arms) (statements otherwise)
statement-If arms otherwise = search (rules, stmt_lemmas)

pub statement-While :
    (line : ℕ) (test : SlotExpr) (body : List SlotStmt)
    → statement (While line test body) ≡ while_block line (expression test) (statements body)
statement-While line test body = search (rules, stmt_lemmas)

pub statement-For :
    (line : ℕ) (h : SlotHead) (body : List SlotStmt)
    → statement (For line h body) ≡ for_block line (head h) (statements body)
statement-For line h body = search (rules, stmt_lemmas)

pub statement-Do :
    (line : ℕ) (body : List SlotStmt) (test : SlotExpr)
    → statement (Do line body test) ≡ do_block line (statements body) (expression test)
statement-Do line body test = search (rules, stmt_lemmas)

pub statement-Loop :
    (line input : ℕ) (body : List SlotStmt)
    → statement (Loop line input body) ≡ loop_block line input (statements body)
statement-Loop line input body = search (rules, stmt_lemmas)

pub statement-Return : (e : SlotExpr) → statement (Return e) ≡ plain (both (expression e) (one instr.Return))
statement-Return e = search (rules, stmt_lemmas)

pub statement-Break : statement Break ≡ break_block
statement-Break = search (rules, stmt_lemmas)

pub statement-Continue : statement Continue ≡ continue_block
statement-Continue = search (rules, stmt_lemmas)
