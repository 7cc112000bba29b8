-- What the reader of expressions answers.
use Rattle.std.specs.Prelude.{ℕ, ◌≤◌, ◌-◌, List, length, drop}
use Rattle.flame_lex.specs.declared.token.Token.{Token}
use Rattle.flame_spec.specs.Trees.{Expression}
use Rattle.flame_expr.specs.ExpressionGrammar.{Reads}
use Rattle.flame_expr.specs.ViablePrefixes.{level, IsLongest}

-- the tokens from one place up to another are this expression [C, 6.5]
abbrev pub IsExpression : List Token → ℕ → ℕ → Expression → Type 0
IsExpression tokens at end e = Reads 6 (drop at tokens) e (drop end tokens)

-- the longest run of tokens from this place that is a prefix of an expression is this one [own]
pub record IsExpressionAt (tokens : List Token) (at : ℕ) (e : Expression) (end : ℕ) : Type 0 where
  pub ahead : at ≤ end
  pub within : end ≤ length tokens
  pub longest : IsLongest (level 6) (drop at tokens) (end - at)
  pub tree : IsExpression tokens at end e

-- the longest run of tokens from this place that is a prefix of an expression stops here, and is none [own]
pub record IsNoExpressionAt (tokens : List Token) (at stop : ℕ) : Type 0 where
  pub ahead : at ≤ stop
  pub within : stop ≤ length tokens
  pub longest : IsLongest (level 6) (drop at tokens) (stop - at)
  pub none : (e : Expression) → IsExpression tokens at stop e → ⊥
