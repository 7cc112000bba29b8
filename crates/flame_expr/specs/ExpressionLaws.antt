-- The laws of the grammar of expressions.
use Rattle.std.specs.Prelude.{◌≡◌, ℕ, ◌≤◌, ◌⊎◌, ◌↔◌, List, [], length}
use Rattle.flame_lex.specs.declared.token.Token.{Token}
use Rattle.flame_spec.specs.Trees.{Expression}
use Rattle.flame_expr.specs.ExpressionGrammar.{Reads}
use Rattle.flame_expr.specs.ViablePrefixes.{level, Matches}
use Rattle.flame_expr.specs.Expressed.{IsExpressionAt, IsNoExpressionAt}

-- a list of tokens is at most one expression [own]
abbrev pub ExpressionIsUnique : Type 0
ExpressionIsUnique = (tokens : List Token) (e f : Expression) → Reads 6 tokens e [] → Reads 6 tokens f [] → e ≡ f

-- tokens up to others are an expression exactly where steps match them [own]
abbrev pub ExpressionsAreMatched : Type 0
ExpressionsAreMatched =
    (tokens rest : List Token) → ((e : Expression) × Reads 6 tokens e rest) ↔ Matches (level 6) tokens rest

-- at every place of every list of tokens the longest run is an expression, or is none [own]
abbrev pub PlacesAreRead : Type 0
PlacesAreRead =
    (tokens : List Token) (at : ℕ) → at ≤ length tokens
    → ((e : Expression) × (end : ℕ) × IsExpressionAt tokens at e end)
    ⊎ ((stop : ℕ) × IsNoExpressionAt tokens at stop)
