-- What each form of a tree is seen as.
use Rattle.std.proofs.Common.{◌≡◌, ℕ, List, map, rules}
use Rattle.std.specs.Prelude.{ℤ, option_map}
use Rattle.flame_spec.specs.declared.trees.Sign.{Sign}
use Rattle.flame_spec.specs.declared.trees.Expr.{Expr, Number, Name, Field, Get, At, FieldAt, Unary, Chain, All, Any, the_lemmas}
use Rattle.flame_spec.specs.declared.trees.Link.{Link}
use Rattle.flame_spec.specs.declared.trees.Subscript.{Subscript}
use Rattle.flame_spec.specs.declared.trees.Stmt.{Stmt, Empty, Declare, Assign, Call, Block, If, While, For, Do, Loop, Return, Break, Continue, the_lemmas as stmt_lemmas}
use Rattle.flame_spec.specs.declared.trees.Item.{Item}
use Rattle.flame_spec.specs.declared.trees.Assign as assignment
use Rattle.flame_spec.specs.declared.trees.Arm.{Arm}
use Rattle.flame_spec.specs.declared.trees.Head.{Head}
use Rattle.flame_spec.specs.Trees.{number, name, field, get, at, field_at, signed, chain, all_of, any_of}
use Rattle.flame_spec.specs.Trees.{empty, declare, assign, call, block, branch, while, for, do_while, loop_over, return, break, continue}
use Rattle.flame_spec.specs.Seen.{links, expression, expressions, declared, assigned, arms, statement, statements}

pub expression-Number : (n : ℤ) → expression (Number n) ≡ number n
expression-Number n = search (rules, the_lemmas)

pub expression-Name : (line : ℕ) (word : List ℕ) → expression (Name line word) ≡ name line word
expression-Name line word = search (rules, the_lemmas)

pub expression-Field : (line : ℕ) (word variable : List ℕ) → expression (Field line word variable) ≡ field line word variable
expression-Field line word variable = search (rules, the_lemmas)

pub expression-Get : (line : ℕ) (word : List ℕ) → expression (Get line word) ≡ get line word
expression-Get line word = search (rules, the_lemmas)

pub expression-At :
    (line : ℕ) (word : List ℕ) (s : Subscript)
    → expression (At line word s) ≡ at line word s.line (expression s.index)
expression-At line word s = search (rules, the_lemmas)

pub expression-FieldAt :
    (line : ℕ) (word variable : List ℕ) (s : Subscript)
    → expression (FieldAt line word variable s) ≡ field_at line word variable s.line (expression s.index)
expression-FieldAt line word variable s = search (rules, the_lemmas)

pub expression-Unary : (signs : List Sign) (e : Expr) → expression (Unary signs e) ≡ signed signs (expression e)
expression-Unary signs e = search (rules, the_lemmas)

pub expression-Chain :
    (e : Expr) (more : List Link)
    → expression (Chain e more) ≡ chain (expression e) (links more)
expression-Chain e more = search (rules, the_lemmas)

pub expression-All : (parts : List Expr) → expression (All parts) ≡ all_of (expressions parts)
expression-All parts = search (rules, the_lemmas)

pub expression-Any : (parts : List Expr) → expression (Any parts) ≡ any_of (expressions parts)
expression-Any parts = search (rules, the_lemmas)

pub statement-Empty : statement Empty ≡ empty
statement-Empty = search (rules, stmt_lemmas)

pub statement-Declare : (items : List Item) → statement (Declare items) ≡ declare (map declared items)
statement-Declare items = search (rules, stmt_lemmas)

pub statement-Assign : (a : assignment.Assign) → statement (Assign a) ≡ assign (assigned a)
statement-Assign a = search (rules, stmt_lemmas)

pub statement-Call :
    (line : ℕ) (word : List ℕ) (arguments : List Expr)
    → statement (Call line word arguments) ≡ call line word (expressions arguments)
statement-Call line word arguments = search (rules, stmt_lemmas)

pub statement-Block : (body : List Stmt) → statement (Block body) ≡ block (statements body)
statement-Block body = search (rules, stmt_lemmas)

pub statement-If :
    (tests : List Arm) (otherwise : List Stmt)
    → statement (If tests otherwise) ≡ branch (arms tests) (statements otherwise)
statement-If tests otherwise = search (rules, stmt_lemmas)

pub statement-While :
    (line : ℕ) (test : Expr) (body : List Stmt)
    → statement (While line test body) ≡ while line (expression test) (statements body)
statement-While line test body = search (rules, stmt_lemmas)

pub statement-For :
    (line : ℕ) (head : Head) (body : List Stmt)
    → statement (For line head body)
    ≡ for line (statements head.first) (option_map expression head.test) (option_map assigned head.step)
    (statements body)
statement-For line head body = search (rules, stmt_lemmas)

pub statement-Do :
    (line : ℕ) (body : List Stmt) (test : Expr)
    → statement (Do line body test) ≡ do_while line (statements body) (expression test)
statement-Do line body test = search (rules, stmt_lemmas)

pub statement-Loop :
    (line : ℕ) (word : List ℕ) (body : List Stmt) (end_line : ℕ) (end_word : List ℕ)
    → statement (Loop line word body end_line end_word) ≡ loop_over line word (statements body) end_line end_word
statement-Loop line word body end_line end_word = search (rules, stmt_lemmas)

pub statement-Return : (e : Expr) → statement (Return e) ≡ return (expression e)
statement-Return e = search (rules, stmt_lemmas)

pub statement-Break : (line : ℕ) → statement (Break line) ≡ break line
statement-Break line = search (rules, stmt_lemmas)

pub statement-Continue : (line : ℕ) → statement (Continue line) ≡ continue line
statement-Continue line = search (rules, stmt_lemmas)
