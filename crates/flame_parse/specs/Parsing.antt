-- What the reader of function files answers.
use Rattle.std.specs.Prelude.{ℕ, List, [], ◌∷◌}
use Rattle.flame_spec.specs.declared.trees.Def.{Def}
use Rattle.flame_spec.specs.Seen.{statements}
use Rattle.flame_lex.specs.declared.token.Token.{Token}
use Rattle.flame_rows.specs.declared.fails.Fail.{Fail}
use Rattle.flame_rows.specs.declared.fails.Fail.TheVariants.{Fault, NoMemory}
use Rattle.flame_expr.specs.declared.faults.ParseFault.{ParseFault}
use Rattle.flame_expr.specs.declared.faults.ParseFault.TheVariants.{TooDeep, Syntax}
use Rattle.flame_expr.specs.declared.lexemes.Lexeme.{Lexeme}
use Rattle.flame_expr.specs.declared.lexemes.Lexeme.TheVariants.{Int}
use Rattle.flame_expr.specs.ViablePrefixes.{a_unit, IsLongest}
use Rattle.flame_expr.specs.Nesting.{NestsWithin, IsTooDeep}
use Rattle.flame_parse.specs.StatementGrammar.{Defined, Definitions}

-- a function definition, as definitions see it [own]
abbrev pub defined : Def → Defined
defined d = record { line = d.line; name = d.name; parameters = d.parameters; body = statements d.body }

-- what makes a list of definitions longer [own]
abbrev pub joins_unit : List Lexeme
joins_unit = Int ∷ []

-- the tokens are these function definitions [C, 6.9]
abbrev pub IsUnit : List Token → List Defined → Type 0
IsUnit tokens ds = Definitions tokens ds []

-- the tokens are these function definitions, and nest within the limit [own]
pub record IsFile (tokens : List Token) (ds : List Defined) : Type 0 where
  pub nests : NestsWithin 64 tokens
  pub tree : IsUnit tokens ds

-- the tokens nest within the limit and are no function file; the longest prefix of one has this length [own]
pub record IsNoUnit (tokens : List Token) (n : ℕ) : Type 0 where
  pub nests : NestsWithin 64 tokens
  pub longest : IsLongest a_unit tokens n
  pub none : (ds : List Defined) → IsUnit tokens ds → ⊥

-- when each fault comes [own]
abbrev pub FailsBy : List Token → Fail ParseFault → Type 0
FailsBy tokens NoMemory = Unit {0}
FailsBy tokens (Fault (TooDeep n)) = IsTooDeep 64 tokens n
FailsBy tokens (Fault (Syntax n)) = IsNoUnit tokens n
