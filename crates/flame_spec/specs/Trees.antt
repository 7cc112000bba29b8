-- The trees of function files, as definitions go through them: the same forms as in the data, with plain lists.
use Rattle.std.specs.Prelude.{ℕ, ℤ, List, Option}
use Rattle.flame_ops.specs.declared.integers.Op.{Op}
use Rattle.flame_spec.specs.declared.trees.Sign.{Sign}

mutual
  -- an expression; a number before a name is the line of its word, and one before an index that of its bracket
  -- [C, 6.5; `get`, `field` and `field_at`: FLAME User Manual]
  pub data Expression : Type 0 where
    number : ℤ → Expression
    name : ℕ → List ℕ → Expression
    field : ℕ → List ℕ → List ℕ → Expression
    get : ℕ → List ℕ → Expression
    at : ℕ → List ℕ → ℕ → Expression → Expression
    field_at : ℕ → List ℕ → List ℕ → ℕ → Expression → Expression
    signed : List Sign → Expression → Expression
    chain : Expression → Links → Expression
    all_of : Expressions → Expression
    any_of : Expressions → Expression

  -- expressions in order [C, 6.5]
  pub data Expressions : Type 0 where
    no_parts : Expressions
    part : Expression → Expressions → Expressions

  -- operators with their lines, each with the operand after it, in order [C, 6.5]
  pub data Links : Type 0 where
    no_links : Links
    link : Op → ℕ → Expression → Links → Links

-- what an assignment or a declaration stores: an expression, or what a helper returns, with the line of its name, its
-- name and its arguments [C, 6.5.16]
pub data Stored : Type 0 where
  plain : Expression → Stored
  called : ℕ → List ℕ → Expressions → Stored

-- which element of an array: the line of the bracket, and the index [C, 6.5.2.1]
pub record Indexed : Type 0 where
  pub line : ℕ
  pub index : Expression

-- a local that a declaration declares [C, 6.7]
pub record Declared : Type 0 where
  pub line : ℕ
  pub name : List ℕ
  pub value : Option Stored

-- an assignment [C, 6.5.16]
pub record Assigned : Type 0 where
  pub line : ℕ
  pub name : List ℕ
  pub subscript : Option Indexed
  pub op : Option Op
  pub op_line : ℕ
  pub value : Stored

mutual
  -- a statement; a number before it is the line of its word or keyword [C, 6.8; `loop_over`: FLAME User Manual]
  pub data Statement : Type 0 where
    empty : Statement
    declare : List Declared → Statement
    assign : Assigned → Statement
    call : ℕ → List ℕ → Expressions → Statement
    block : Statements → Statement
    branch : Arms → Statements → Statement
    while : ℕ → Expression → Statements → Statement
    for : ℕ → Statements → Option Expression → Option Assigned → Statements → Statement
    do_while : ℕ → Statements → Expression → Statement
    loop_over : ℕ → List ℕ → Statements → ℕ → List ℕ → Statement
    return : Expression → Statement
    break : ℕ → Statement
    continue : ℕ → Statement

  -- statements in order [C, 6.8.2]
  pub data Statements : Type 0 where
    no_more : Statements
    also : Statement → Statements → Statements

  -- tests with their bodies, in order [C, 6.8.4]
  pub data Arms : Type 0 where
    no_arms : Arms
    arm : Expression → Statements → Arms → Arms
