-- What trees are seen as by definitions: form by form the same.
use Rattle.std.specs.Prelude.{ℕ, List, [], ◌∷◌, map, Option, option_map}
use Rattle.flame_spec.specs.declared.trees.Expr.{Expr, fold-Expr}
use Rattle.flame_spec.specs.declared.trees.Expr.TheOpen.{Expr-F, Link-F, Subscript-F}
use Rattle.flame_spec.specs.declared.trees.Link.{Link}
use Rattle.flame_spec.specs.declared.trees.Subscript.{Subscript}
use Rattle.flame_spec.specs.declared.trees.Value.{Value}
use Rattle.flame_spec.specs.declared.trees.Value.TheVariants.{Plain, Call}
use Rattle.flame_spec.specs.declared.trees.Stmt.{Stmt, fold-Stmt}
use Rattle.flame_spec.specs.declared.trees.Stmt.TheOpen.{Stmt-F, Arm-F, Head-F}
use Rattle.flame_spec.specs.declared.trees.Arm.{Arm}
use Rattle.flame_spec.specs.declared.trees.Item.{Item}
use Rattle.flame_spec.specs.declared.trees.Assign.{Assign}
use Rattle.flame_ops.specs.declared.integers.Op.{Op}
use Rattle.flame_spec.specs.Trees.{Expression, number, name, field, get, at, field_at, signed, chain, all_of, any_of}
use Rattle.flame_spec.specs.Trees.{Expressions, no_parts, part, Links, no_links, link, Stored, plain, called, Indexed}
use Rattle.flame_spec.specs.Trees.{Declared, Assigned, Statement, empty, declare, assign, call, block, branch, while, for, do_while, loop_over, return, break, continue}
use Rattle.flame_spec.specs.Trees.{Statements, no_more, also, Arms, no_arms, arm}

-- an operator with its line and the operand after it [own]
pub record Joined : Type 0 where
  pub op : Op
  pub line : ℕ
  pub right : Expression

-- expressions, one after another [own]
abbrev pub expressions_of : List Expression → Expressions
expressions_of [] = no_parts
expressions_of (e ∷ es) = part e (expressions_of es)

-- operators with their operands, one after another [own]
abbrev pub links_of : List Joined → Links
links_of [] = no_links
links_of (l ∷ ls) = link l.op l.line l.right (links_of ls)

-- a form of expressions, whose parts are seen already [own]
abbrev pub expression_step : Expr-F Expression Joined Indexed → Expression
expression_step (Expr-F.Number n) = number n
expression_step (Expr-F.Name line word) = name line word
expression_step (Expr-F.Field line word variable) = field line word variable
expression_step (Expr-F.Get line word) = get line word
expression_step (Expr-F.At line word subscript) = at line word subscript.line subscript.index
expression_step (Expr-F.FieldAt line word variable subscript) =
    field_at line word variable subscript.line subscript.index
expression_step (Expr-F.Unary signs e) = signed signs e
expression_step (Expr-F.Chain e more) = chain e (links_of more)
expression_step (Expr-F.All parts) = all_of (expressions_of parts)
expression_step (Expr-F.Any parts) = any_of (expressions_of parts)

-- a link, whose operand is seen already [own]
abbrev pub joined_step : Link-F Expression Joined Indexed → Joined
joined_step l = record { op = l.op; line = l.line; right = l.right }

-- which element, whose index is seen already [own]
abbrev pub indexed_step : Subscript-F Expression Joined Indexed → Indexed
indexed_step s = record { line = s.line; index = s.index }

-- an expression [own]
abbrev pub expression : Expr → Expression
expression = fold-Expr Expression Joined Indexed expression_step joined_step indexed_step

-- expressions in order [own]
abbrev pub expressions : List Expr → Expressions
expressions es = expressions_of (map expression es)

-- an operator with its line and the operand after it [own]
abbrev pub joined : Link → Joined
joined l = record { op = l.op; line = l.line; right = expression l.right }

-- operators with their operands, in order [own]
abbrev pub links : List Link → Links
links ls = links_of (map joined ls)

-- which element [own]
abbrev pub indexed : Subscript → Indexed
indexed s = record { line = s.line; index = expression s.index }

-- what an assignment or a declaration stores [own]
abbrev pub stored : Value → Stored
stored (Plain e) = plain (expression e)
stored (Call line word arguments) = called line word (expressions arguments)

-- a local that a declaration declares [own]
abbrev pub declared : Item → Declared
declared item = record { line = item.line; name = item.name; value = option_map stored item.value }

-- an assignment [own]
abbrev pub assigned : Assign → Assigned
assigned a = record {
  line = a.line;
  name = a.name;
  subscript = option_map indexed a.subscript;
  op = a.op;
  op_line = a.op_line;
  value = stored a.value;
}

-- a test and its body [own]
pub record Tested : Type 0 where
  pub test : Expression
  pub body : Statements

-- the head of a `for` [own]
pub record Headed : Type 0 where
  pub first : Statements
  pub test : Option Expression
  pub step : Option Assigned

-- statements, one after another [own]
abbrev pub statements_of : List Statement → Statements
statements_of [] = no_more
statements_of (s ∷ ss) = also s (statements_of ss)

-- tests with their bodies, one after another [own]
abbrev pub arms_of : List Tested → Arms
arms_of [] = no_arms
arms_of (a ∷ more) = arm a.test a.body (arms_of more)

-- a form of statements, whose parts are seen already [own]
abbrev pub statement_step : Stmt-F Statement Tested Headed → Statement
statement_step Stmt-F.Empty = empty
statement_step (Stmt-F.Declare items) = declare (map declared items)
statement_step (Stmt-F.Assign a) = assign (assigned a)
statement_step (Stmt-F.Call line word arguments) = call line word (expressions arguments)
statement_step (Stmt-F.Block body) = block (statements_of body)
statement_step (Stmt-F.If tests otherwise) = branch (arms_of tests) (statements_of otherwise)
statement_step (Stmt-F.While line test body) = while line (expression test) (statements_of body)
statement_step (Stmt-F.For line head body) =
    for line head.first head.test head.step (statements_of body)
statement_step (Stmt-F.Do line body test) = do_while line (statements_of body) (expression test)
statement_step (Stmt-F.Loop line word body end_line end_word) =
    loop_over line word (statements_of body) end_line end_word
statement_step (Stmt-F.Return e) = return (expression e)
statement_step (Stmt-F.Break line) = break line
statement_step (Stmt-F.Continue line) = continue line

-- a test and its body, seen already [own]
abbrev pub arm_step : Arm-F Statement Tested Headed → Tested
arm_step a = record { test = expression a.test; body = statements_of a.body }

-- the head of a `for`, whose parts are seen already [own]
abbrev pub head_step : Head-F Statement Tested Headed → Headed
head_step h = record {
  first = statements_of h.first;
  test = option_map expression h.test;
  step = option_map assigned h.step;
}

-- a statement [own]
abbrev pub statement : Stmt → Statement
statement = fold-Stmt Statement Tested Headed statement_step arm_step head_step

-- statements in order [own]
abbrev pub statements : List Stmt → Statements
statements ss = statements_of (map statement ss)

-- a test and its body [own]
abbrev pub tested : Arm → Tested
tested a = record { test = expression a.test; body = statements a.body }

-- tests with their bodies, in order [own]
abbrev pub arms : List Arm → Arms
arms more = arms_of (map tested more)
