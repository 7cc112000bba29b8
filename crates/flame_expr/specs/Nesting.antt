-- How deep tokens nest.
use Rattle.std.specs.Prelude.{ℕ, ◌+◌, ◌<◌, ◌≤◌, Bool, true, false, List, [], ◌∷◌, length, take, if◌then◌else◌}
use Rattle.flame_lex.specs.declared.token.Token.{Token}
use Rattle.flame_expr.specs.declared.lexemes.Lexeme.{Lexeme}
use Rattle.flame_expr.specs.declared.lexemes.Lexeme.TheVariants.{Open, Close, OpenBrace, CloseBrace}
use Rattle.flame_expr.specs.declared.lexemes.Lexeme.TheVariants.{OpenBracket, CloseBracket, Start, Finish}
use Rattle.flame_expr.specs.Lexemes.{lexeme_of}

-- whether a lexeme opens a bracket, a brace or a message loop [C, 6.5.1, 6.5.2.1, 6.8.2; FLAME User Manual];
-- ORDER MARKS
abbrev pub opens : Lexeme → Bool
opens Open = true
opens OpenBrace = true
opens OpenBracket = true
opens Start = true
opens l = false

-- whether a lexeme closes one [C, 6.5.1, 6.5.2.1, 6.8.2; FLAME User Manual]; ORDER MARKS
abbrev pub closes : Lexeme → Bool
closes Close = true
closes CloseBrace = true
closes CloseBracket = true
closes Finish = true
closes l = false

-- how many tokens are of these lexemes [own]
abbrev pub count_of : (Lexeme → Bool) → List Token → ℕ
count_of f [] = 0
count_of f (token ∷ tokens) = (if f (lexeme_of token.kind) then 1 else 0) + count_of f tokens

-- among the first k tokens the openers exceed the closers by at most this limit [own]
abbrev pub Fits : ℕ → List Token → ℕ → Type 0
Fits limit tokens k = count_of opens (take k tokens) ≤ limit + count_of closes (take k tokens)

-- nowhere do the openers exceed the closers by more than the limit [own]
abbrev pub NestsWithin : ℕ → List Token → Type 0
NestsWithin limit tokens = (k : ℕ) → Fits limit tokens k

-- with the token of this number, and with none before it, the openers exceed the closers by more than the limit [own]
pub record IsTooDeep (limit : ℕ) (tokens : List Token) (n : ℕ) : Type 0 where
  pub within : n < length tokens
  pub before : (k : ℕ) → k ≤ n → Fits limit tokens k
  pub exceeds : Fits limit tokens (n + 1) → ⊥
