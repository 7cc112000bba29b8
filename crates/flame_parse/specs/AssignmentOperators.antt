-- The operators of assignments, and what begins a statement.
use Rattle.std.specs.Prelude.{◌≡◌, Bool, true, false, List, [], ◌∷◌, Option, Some, None}
use Rattle.flame_ops.specs.declared.integers.Op.{Op}
use Rattle.flame_ops.specs.declared.integers.Op.TheVariants.{Add, Sub, Mul, Div, Rem}
use Rattle.flame_lex.specs.declared.token.Token.{Token}
use Rattle.flame_expr.specs.declared.lexemes.Lexeme.{Lexeme}
use Rattle.flame_expr.specs.declared.lexemes.Lexeme.TheVariants.{Word, Start, PlusPlus, MinusMinus, PlusSet}
use Rattle.flame_expr.specs.declared.lexemes.Lexeme.TheVariants.{MinusSet, StarSet, SlashSet, PercentSet, Set}
use Rattle.flame_expr.specs.declared.lexemes.Lexeme.TheVariants.{Open, Close, OpenBrace, Comma, Semicolon, Int}
use Rattle.flame_expr.specs.declared.lexemes.Lexeme.TheVariants.{If, Else, While}
use Rattle.flame_expr.specs.declared.lexemes.Lexeme.TheVariants.{For, Do, Return, Break, Continue}
use Rattle.flame_expr.specs.Lexemes.{first, behind}
use Rattle.flame_expr.specs.OperatorLevels.{joins}

-- the operator before `=`, where the lexeme is `=` or ends in it [C, 6.5.16]
abbrev pub set_op : Lexeme → Option (Option Op)
set_op Set = Some None
set_op PlusSet = Some (Some Add)
set_op MinusSet = Some (Some Sub)
set_op StarSet = Some (Some Mul)
set_op SlashSet = Some (Some Div)
set_op PercentSet = Some (Some Rem)
set_op l = None

-- the operator of one more or one less [C, 6.5.2.4, 6.5.3.1]
abbrev pub step_op : Lexeme → Option Op
step_op PlusPlus = Some Add
step_op MinusMinus = Some Sub
step_op l = None

-- a value that begins with these tokens is a call with arguments: behind a word and `(` an expression goes on with `)`,
-- and a call with arguments does not [C, 6.5.2.2]
abbrev pub IsCall : List Token → Type 0
IsCall ts = (first ts ≡ Word) × (first (behind ts) ≡ Open) × (first (behind (behind ts)) ≡ Close → ⊥)

-- what begins a statement [C, 6.8; FLAME User Manual]
abbrev pub starters : List Lexeme
starters =
    Int ∷ OpenBrace ∷ If ∷ While ∷ For ∷ Do ∷ Start ∷ Semicolon ∷ Word ∷ PlusPlus ∷ MinusMinus ∷ Return ∷ Break
    ∷ Continue ∷ []

-- what makes an item longer [own]
abbrev pub joins_item : List Lexeme
joins_item = Set ∷ joins 6

-- what makes further items longer [own]
abbrev pub joins_items : List Lexeme
joins_items = Comma ∷ Set ∷ joins 6

-- what makes further arguments longer [own]
abbrev pub joins_args : List Lexeme
joins_args = Comma ∷ joins 6

-- what makes further parameters longer [own]
abbrev pub joins_parameters : List Lexeme
joins_parameters = Comma ∷ []

-- what makes a statement longer [own]
abbrev pub joins_stmt : List Lexeme
joins_stmt = Else ∷ []

-- what makes statements longer [own]
abbrev pub joins_stmts : List Lexeme
joins_stmts = Else ∷ starters

-- whether a statement begins so [C, 6.8; FLAME User Manual]
abbrev pub starts : Lexeme → Bool
starts Int = true
starts OpenBrace = true
starts If = true
starts While = true
starts For = true
starts Do = true
starts Start = true
starts Semicolon = true
starts Word = true
starts PlusPlus = true
starts MinusMinus = true
starts Return = true
starts Break = true
starts Continue = true
starts l = false
