-- The grammar of statements and function files, by cases: tokens, what they are, and the tokens behind it.
use Rattle.std.specs.Prelude.{◌≡◌, ℕ, pos, List, [], ◌∷◌, Option, Some, None}
use Rattle.flame_ops.specs.declared.integers.Op.{Op}
use Rattle.flame_spec.specs.declared.trees.Parameter.{Parameter}
use Rattle.flame_spec.specs.Trees.{Expression, number, Expressions, no_parts, part, Stored, plain, called, Indexed}
use Rattle.flame_spec.specs.Trees.{Declared, Assigned, Statement}
use Rattle.flame_spec.specs.Trees.{empty, declare, assign, call, block, branch, while, for, do_while, loop_over}
use Rattle.flame_spec.specs.Trees.{return, break, continue, Statements, no_more, also, Arms, no_arms, arm}
use Rattle.flame_lex.specs.declared.token.Token.{Token}
use Rattle.flame_expr.specs.declared.lexemes.Lexeme.TheVariants.{Word, Start, Finish, Set, Open, Close, OpenBrace}
use Rattle.flame_expr.specs.declared.lexemes.Lexeme.TheVariants.{CloseBrace, Comma, Semicolon, Int, Void, If, Else}
use Rattle.flame_expr.specs.declared.lexemes.Lexeme.TheVariants.{While, For, Do, Return, Break, Continue}
use Rattle.flame_expr.specs.Lexemes.{first, text, line, behind}
use Rattle.flame_expr.specs.ExpressionGrammar.{Reads, Index, Bracketed}
use Rattle.flame_parse.specs.AssignmentOperators.{set_op, step_op}

-- ("," expr)* [C, 6.5.2]
pub data MoreArgs : List Token → Expressions → List Token → Type 0 where
  no_arg : {rest : List Token} → MoreArgs rest no_parts rest
  arg_more :
      {ts mid rest : List Token} {e : Expression} {us : Expressions}
      → first ts ≡ Comma → Reads 6 (behind ts) e mid → MoreArgs mid us rest → MoreArgs ts (part e us) rest

-- args = expr ("," expr)* [C, 6.5.2]
pub data Args : List Token → Expressions → List Token → Type 0 where
  args :
      {ts mid rest : List Token} {e : Expression} {us : Expressions}
      → Reads 6 ts e mid → MoreArgs mid us rest → Args ts (part e us) rest

-- value = expr | WORD "(" args ")" [C, 6.5.16, 6.5.2.2]
pub data Stores : List Token → Stored → List Token → Type 0 where
  an_expression : {ts rest : List Token} {e : Expression} → Reads 6 ts e rest → Stores ts (plain e) rest
  a_call :
      {ts mid : List Token} {us : Expressions}
      → first ts ≡ Word → first (behind ts) ≡ Open → Args (behind (behind ts)) us mid → first mid ≡ Close
      → Stores ts (called (line ts) (text ts) us) (behind mid)

-- ["=" value] [C, 6.7.9]
pub data Initial : List Token → Option Stored → List Token → Type 0 where
  no_initial : {rest : List Token} → Initial rest None rest
  an_initial :
      {ts rest : List Token} {v : Stored} → first ts ≡ Set → Stores (behind ts) v rest → Initial ts (Some v) rest

-- item = WORD ["=" value] [C, 6.7]
pub data Item : List Token → Declared → List Token → Type 0 where
  an_item :
      {ts rest : List Token} {v : Option Stored}
      → first ts ≡ Word → Initial (behind ts) v rest
      → Item ts (record { line = line ts; name = text ts; value = v }) rest

-- ("," item)* [C, 6.7]
pub data MoreItems : List Token → List Declared → List Token → Type 0 where
  no_item : {rest : List Token} → MoreItems rest [] rest
  item_more :
      {ts mid rest : List Token} {d : Declared} {ds : List Declared}
      → first ts ≡ Comma → Item (behind ts) d mid → MoreItems mid ds rest → MoreItems ts (d ∷ ds) rest

-- item ("," item)* [C, 6.7]
pub data Items : List Token → List Declared → List Token → Type 0 where
  items :
      {ts mid rest : List Token} {d : Declared} {ds : List Declared}
      → Item ts d mid → MoreItems mid ds rest → Items ts (d ∷ ds) rest

-- decl = "int" item ("," item)* [C, 6.7]
pub data Declaration : List Token → List Declared → List Token → Type 0 where
  declaration :
      {ts rest : List Token} {ds : List Declared}
      → first ts ≡ Int → Items (behind ts) ds rest → Declaration ts ds rest

-- place = WORD ["[" expr "]"]: its word, and which element of it [C, 6.5.16, 6.5.2.1]
pub data Place : List Token → List ℕ → Option Indexed → List Token → Type 0 where
  placed :
      {ts rest : List Token} {s : Option Indexed}
      → first ts ≡ Word → Index (behind ts) s rest → Place ts (text ts) s rest

-- assign = place ("=" | "+=" | "-=" | "*=" | "/=" | "%=") value | place ("++" | "--") | ("++" | "--") place
-- [C, 6.5.16, 6.5.2.4, 6.5.3.1]
pub data Assignment : List Token → Assigned → List Token → Type 0 where
  sets :
      {ts mid rest : List Token} {word : List ℕ} {s : Option Indexed} {op : Option Op} {v : Stored}
      → Place ts word s mid → set_op (first mid) ≡ Some op → Stores (behind mid) v rest
      → Assignment ts
      (record { line = line ts; name = word; subscript = s; op = op; op_line = line mid; value = v })
      rest
  steps_behind :
      {ts mid : List Token} {word : List ℕ} {s : Option Indexed} {op : Op}
      → Place ts word s mid → step_op (first mid) ≡ Some op
      → Assignment ts
      (record {
        line = line ts;
        name = word;
        subscript = s;
        op = Some op;
        op_line = line mid;
        value = plain (number (pos 1));
      })
      (behind mid)
  steps_before :
      {ts rest : List Token} {word : List ℕ} {s : Option Indexed} {op : Op}
      → step_op (first ts) ≡ Some op → Place (behind ts) word s rest
      → Assignment ts
      (record {
        line = line (behind ts);
        name = word;
        subscript = s;
        op = Some op;
        op_line = line ts;
        value = plain (number (pos 1));
      })
      rest

-- [args] ")" [C, 6.5.2.2]
pub data Called : List Token → Expressions → List Token → Type 0 where
  no_args : {ts : List Token} → first ts ≡ Close → Called ts no_parts (behind ts)
  some_args :
      {ts mid : List Token} {us : Expressions} → Args ts us mid → first mid ≡ Close → Called ts us (behind mid)

-- assign ";" [C, 6.8.3]
pub data AssignedTo : List Token → Assigned → List Token → Type 0 where
  assigned_to :
      {ts mid : List Token} {a : Assigned}
      → Assignment ts a mid → first mid ≡ Semicolon → AssignedTo ts a (behind mid)

-- simple = ";" | assign ";" | WORD "(" [args] ")" ";" | "return" expr ";" | "break" ";" | "continue" ";"
-- [C, 6.8.3, 6.8.6]
pub data Simple : List Token → Statement → List Token → Type 0 where
  nothing : {ts : List Token} → first ts ≡ Semicolon → Simple ts empty (behind ts)
  assigning :
      {ts rest : List Token} {a : Assigned} → AssignedTo ts a rest → Simple ts (assign a) rest
  calling :
      {ts mid : List Token} {us : Expressions}
      → first ts ≡ Word → first (behind ts) ≡ Open → Called (behind (behind ts)) us mid → first mid ≡ Semicolon
      → Simple ts (call (line ts) (text ts) us) (behind mid)
  returning :
      {ts mid : List Token} {e : Expression}
      → first ts ≡ Return → Reads 6 (behind ts) e mid → first mid ≡ Semicolon → Simple ts (return e) (behind mid)
  breaking :
      {ts : List Token}
      → first ts ≡ Break → first (behind ts) ≡ Semicolon → Simple ts (break (line ts)) (behind (behind ts))
  continuing :
      {ts : List Token}
      → first ts ≡ Continue → first (behind ts) ≡ Semicolon → Simple ts (continue (line ts)) (behind (behind ts))

-- [assign | decl] ";" [C, 6.8.5.3]
pub data First : List Token → Statements → List Token → Type 0 where
  no_first : {ts : List Token} → first ts ≡ Semicolon → First ts no_more (behind ts)
  first_assign :
      {ts rest : List Token} {a : Assigned} → AssignedTo ts a rest → First ts (also (assign a) no_more) rest
  first_decl :
      {ts mid : List Token} {ds : List Declared}
      → Declaration ts ds mid → first mid ≡ Semicolon → First ts (also (declare ds) no_more) (behind mid)

-- [expr] ";" [C, 6.8.5.3]
pub data Test : List Token → Option Expression → List Token → Type 0 where
  no_test : {ts : List Token} → first ts ≡ Semicolon → Test ts None (behind ts)
  a_test :
      {ts mid : List Token} {e : Expression} → Reads 6 ts e mid → first mid ≡ Semicolon → Test ts (Some e) (behind mid)

-- [assign] ")" [C, 6.8.5.3]
pub data Step : List Token → Option Assigned → List Token → Type 0 where
  no_step : {ts : List Token} → first ts ≡ Close → Step ts None (behind ts)
  a_step :
      {ts mid : List Token} {a : Assigned} → Assignment ts a mid → first mid ≡ Close → Step ts (Some a) (behind mid)

-- "(" [assign | decl] ";" [expr] ";" [assign] ")" [C, 6.8.5.3]
pub data Heading : List Token → Statements → Option Expression → Option Assigned → List Token → Type 0 where
  heading :
      {ts l m rest : List Token} {fs : Statements} {e : Option Expression} {a : Option Assigned}
      → first ts ≡ Open → First (behind ts) fs l → Test l e m → Step m a rest → Heading ts fs e a rest

mutual
  -- block = "{" stmt* "}" [C, 6.8.2]
  pub data Block : List Token → Statements → List Token → Type 0 where
    braces :
        {ts mid : List Token} {ss : Statements}
        → first ts ≡ OpenBrace → Stmts (behind ts) ss mid → first mid ≡ CloseBrace → Block ts ss (behind mid)

  -- stmt* [C, 6.8.2]
  pub data Stmts : List Token → Statements → List Token → Type 0 where
    no_stmt : {rest : List Token} → Stmts rest no_more rest
    stmt_more :
        {ts mid rest : List Token} {s : Statement} {ss : Statements}
        → Stmt ts s mid → Stmts mid ss rest → Stmts ts (also s ss) rest

  -- stmt = decl ";" | block | if | while | for | do | loop | simple [C, 6.8; FLAME User Manual]
  pub data Stmt : List Token → Statement → List Token → Type 0 where
    declaring :
        {ts mid : List Token} {ds : List Declared}
        → Declaration ts ds mid → first mid ≡ Semicolon → Stmt ts (declare ds) (behind mid)
    blocking : {ts rest : List Token} {ss : Statements} → Block ts ss rest → Stmt ts (block ss) rest
    -- if = "if" "(" expr ")" body ("else" "if" "(" expr ")" body)* ["else" body]
    branching :
        {ts m n rest : List Token} {e : Expression} {ss os : Statements} {as' : Arms}
        → first ts ≡ If → Bracketed (behind ts) e m → Body m ss n → Elses n as' os rest
        → Stmt ts (branch (arm e ss as') os) rest
    -- while = "while" "(" expr ")" body
    whiling :
        {ts m rest : List Token} {e : Expression} {ss : Statements}
        → first ts ≡ While → Bracketed (behind ts) e m → Body m ss rest → Stmt ts (while (line ts) e ss) rest
    -- for = "for" "(" [assign | decl] ";" [expr] ";" [assign] ")" body
    repeating :
        {ts m rest : List Token} {fs ss : Statements} {e : Option Expression} {a : Option Assigned}
        → first ts ≡ For → Heading (behind ts) fs e a m → Body m ss rest → Stmt ts (for (line ts) fs e a ss) rest
    -- do = "do" body "while" "(" expr ")" ";"
    doing :
        {ts m n : List Token} {e : Expression} {ss : Statements}
        → first ts ≡ Do → Body (behind ts) ss m → first m ≡ While → Bracketed (behind m) e n → first n ≡ Semicolon
        → Stmt ts (do_while (line ts) ss e) (behind n)
    -- loop = START stmt* FINISH
    looping :
        {ts m : List Token} {ss : Statements}
        → first ts ≡ Start → Stmts (behind ts) ss m → first m ≡ Finish
        → Stmt ts (loop_over (line ts) (text ts) ss (line m) (text m)) (behind m)
    simply : {ts rest : List Token} {s : Statement} → Simple ts s rest → Stmt ts s rest

  -- ("else" "if" "(" expr ")" body)* ["else" body] [C, 6.8.4.1]
  pub data Elses : List Token → Arms → Statements → List Token → Type 0 where
    no_else : {rest : List Token} → Elses rest no_arms no_more rest
    else_if :
        {ts m n rest : List Token} {e : Expression} {ss os : Statements} {as' : Arms}
        → first ts ≡ Else → first (behind ts) ≡ If → Bracketed (behind (behind ts)) e m → Body m ss n
        → Elses n as' os rest
        → Elses ts (arm e ss as') os rest
    an_else :
        {ts rest : List Token} {ss : Statements}
        → first ts ≡ Else → Body (behind ts) ss rest → Elses ts no_arms ss rest

  -- body = block | simple [C, 6.8.4, 6.8.5]
  pub data Body : List Token → Statements → List Token → Type 0 where
    in_braces : {ts rest : List Token} {ss : Statements} → Block ts ss rest → Body ts ss rest
    one_simple : {ts rest : List Token} {s : Statement} → Simple ts s rest → Body ts (also s no_more) rest

-- a function definition: the line of its `int`, its name, its parameters and its statements [C, 6.9.1]
pub record Defined : Type 0 where
  pub line : ℕ
  pub name : List ℕ
  pub parameters : List Parameter
  pub body : Statements

-- "int" WORD; its line is that of its `int` [C, 6.7.6.3]
pub data OneParameter : List Token → Parameter → List Token → Type 0 where
  a_parameter :
      {ts : List Token}
      → first ts ≡ Int → first (behind ts) ≡ Word
      → OneParameter ts (record { line = line ts; name = text (behind ts) }) (behind (behind ts))

-- ("," "int" WORD)* [C, 6.7.6.3]
pub data MoreParameters : List Token → List Parameter → List Token → Type 0 where
  no_parameter : {rest : List Token} → MoreParameters rest [] rest
  parameter_more :
      {ts mid rest : List Token} {p : Parameter} {ps : List Parameter}
      → first ts ≡ Comma → OneParameter (behind ts) p mid → MoreParameters mid ps rest
      → MoreParameters ts (p ∷ ps) rest

-- "int" WORD ("," "int" WORD)* [C, 6.7.6.3]
pub data SomeParameters : List Token → List Parameter → List Token → Type 0 where
  listed :
      {ts mid rest : List Token} {p : Parameter} {ps : List Parameter}
      → OneParameter ts p mid → MoreParameters mid ps rest → SomeParameters ts (p ∷ ps) rest

-- ["void" | "int" WORD ("," "int" WORD)*] ")" [C, 6.7.6.3]
pub data Parameters : List Token → List Parameter → List Token → Type 0 where
  none_given : {ts : List Token} → first ts ≡ Close → Parameters ts [] (behind ts)
  void_given :
      {ts : List Token} → first ts ≡ Void → first (behind ts) ≡ Close → Parameters ts [] (behind (behind ts))
  some_given :
      {ts mid : List Token} {ps : List Parameter}
      → SomeParameters ts ps mid → first mid ≡ Close → Parameters ts ps (behind mid)

-- def = "int" WORD "(" ["void" | "int" WORD ("," "int" WORD)*] ")" block [C, 6.9.1]
pub data Definition : List Token → Defined → List Token → Type 0 where
  definition :
      {ts mid rest : List Token} {ps : List Parameter} {ss : Statements}
      → first ts ≡ Int → first (behind ts) ≡ Word → first (behind (behind ts)) ≡ Open
      → Parameters (behind (behind (behind ts))) ps mid → Block mid ss rest
      → Definition ts (record { line = line ts; name = text (behind ts); parameters = ps; body = ss }) rest

-- unit = def* [C, 6.9]
pub data Definitions : List Token → List Defined → List Token → Type 0 where
  no_definition : {rest : List Token} → Definitions rest [] rest
  definition_more :
      {ts mid rest : List Token} {d : Defined} {ds : List Defined}
      → Definition ts d mid → Definitions mid ds rest → Definitions ts (d ∷ ds) rest
