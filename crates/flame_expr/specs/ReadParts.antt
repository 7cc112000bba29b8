-- What a reader says of each part that it reads: where it ends or where it stops, and that no steps get past that.
use Rattle.std.specs.Prelude.{◌≡◌, ℕ, ◌≤◌, ◌<◌, ◌⊎◌, List, [], ◌∷◌, length, drop}
use Rattle.flame_lex.specs.declared.token.Token.{Token}
use Rattle.flame_expr.specs.declared.lexemes.Lexeme.{Lexeme}
use Rattle.flame_expr.specs.Lexemes.{lexeme_of}
use Rattle.flame_expr.specs.declared.faults.ParseFault.TheVariants.{TooDeep, Syntax}
use Rattle.flame_expr.specs.declared.faults.ParseFault.{ParseFault}
use Rattle.flame_rows.specs.declared.fails.Fail.{Fail}
use Rattle.flame_rows.specs.declared.fails.Fail.TheVariants.{Fault, NoMemory}
use Rattle.flame_expr.specs.ViablePrefixes.{Symbol, End, left, whole, Goes}

-- before what follows [own]
abbrev pub onto : List Symbol → List Symbol → List Symbol
onto [] K = K
onto (x ∷ X) K = x ∷ onto X K

-- what steps leave [own]
abbrev pub left_of : End → List Token
left_of (left ts) = ts
left_of (whole ts) = ts

-- steps that end here do not get to stop with the whole rest behind, and not past it [own]
abbrev pub StopsAt : List Token → End → Type 0
StopsAt stop (left ts) = length stop ≤ length ts
StopsAt stop (whole ts) = length stop < length ts

-- the rest matches no token where one of these lexemes is next [own]
abbrev pub Blocks : List Lexeme → List Symbol → Type 0
Blocks [] K = Unit {0}
Blocks (l ∷ ls) K =
    ((token : Token) (ts : List Token) (end : End)
    → lexeme_of token.kind ≡ l → Goes K (token ∷ ts) end → length (token ∷ ts) ≤ length (left_of end))
    × Blocks ls K

-- these symbols take the tokens up to mid, whatever comes then; and where what comes then matches nothing that joins
-- them, all other steps end before mid [own]
pub record Passes (joins : List Lexeme) (X : List Symbol) (ts mid : List Token) : Type 0 where
  pub shorter : length mid ≤ length ts
  pub goes : (K : List Symbol) (end : End) → Goes K mid end → Goes (onto X K) ts end
  pub bound :
      (K : List Symbol) (end : End)
      → Blocks joins K → Goes (onto X K) ts end → (length mid < length (left_of end)) ⊎ Goes K mid end

-- steps through these symbols get to stop, none past it, and none to the end of the symbols at stop [own]
pub record Halts (joins : List Lexeme) (X : List Symbol) (ts stop : List Token) : Type 0 where
  pub shorter : length stop ≤ length ts
  pub goes : (K : List Symbol) → Goes (onto X K) ts (left stop)
  pub bound : (K : List Symbol) (end : End) → Blocks joins K → Goes (onto X K) ts end → StopsAt stop end

-- these symbols are read from one place of the tokens up to another [own]
pub record Ended (joins : List Lexeme) (X : List Symbol) (tokens : List Token) (at end : ℕ) : Type 0 where
  pub ahead : at ≤ end
  pub within : end ≤ length tokens
  pub passes : Passes joins X (drop at tokens) (drop end tokens)

-- the reading of these symbols from this place stops before a token [own]
pub record Stopped (joins : List Lexeme) (X : List Symbol) (tokens : List Token) (at stop : ℕ) : Type 0 where
  pub ahead : at ≤ stop
  pub within : stop ≤ length tokens
  pub halts : Halts joins X (drop at tokens) (drop stop tokens)

-- a syntax fault has a number of which this holds [own]
abbrev pub Fails : Fail ParseFault → (ℕ → Type 0) → Type 0
Fails NoMemory P = Unit {0}
Fails (Fault (TooDeep n)) P = ⊥
Fails (Fault (Syntax n)) P = P n

-- a syntax fault has the number of the token before which the reading of these symbols stops [own]
abbrev pub StopsBy : List Lexeme → List Symbol → List Token → ℕ → Fail ParseFault → Type 0
StopsBy joins X tokens at fail = Fails fail (Stopped joins X tokens at)
