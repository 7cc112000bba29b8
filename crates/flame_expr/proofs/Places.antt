-- Tokens at a place.
use Rattle.std.proofs.Common.{◌≡◌, ◌⊎◌, inl, inr, ℕ, ◌+◌, ◌<◌, ◌≤◌, List, [], ◌∷◌, length, drop, sym, ap, ◌∙◌, subst, arith, true}
use Rattle.std.proofs.lemmas.Bool.{cases_lt}
use Rattle.std.proofs.lemmas.Bool.{false≢true}
use Rattle.std.proofs.lemmas.List.{drop_more, drop_all}
use Rattle.flame_lex.specs.declared.token.Token.{Token}
use Rattle.flame_expr.specs.declared.lexemes.Lexeme.{Lexeme}
use Rattle.flame_rows.specs.declared.fails.Fail.{Fail}
use Rattle.flame_expr.specs.declared.faults.ParseFault.{ParseFault}
use Rattle.flame_rows.specs.declared.fails.Fail.TheVariants.{Fault, NoMemory}
use Rattle.flame_expr.specs.declared.faults.ParseFault.TheVariants.{TooDeep, Syntax}
use Rattle.flame_expr.specs.Lexemes.{first, behind, is_real}
use Rattle.flame_expr.specs.ViablePrefixes.{lexeme}
use Rattle.flame_expr.specs.ReadParts.{Passes, Ended, Stopped, Fails}
use Rattle.flame_expr.proofs.Parts.{lexeme_pass, lexeme_halt}

there_of : (tokens : List Token) (i : ℕ) → (i < length tokens) ⊎ (length tokens ≤ i) → is_real (first (drop i tokens)) ≡ true → i < length tokens
there_of tokens i (inl h) r = h
there_of tokens i (inr h) r = absurd (false≢true (sym (ap (λ ts. is_real (first ts)) (drop_all i tokens h)) ∙ r))

-- a token stands there
pub there : (tokens : List Token) (i : ℕ) (l : Lexeme) → first (drop i tokens) ≡ l → is_real l ≡ true → i < length tokens
there tokens i l f r = there_of tokens i (cases_lt i (length tokens)) (ap is_real f ∙ r)

behind_of : (tokens : List Token) (i : ℕ) (token : Token) → (i < length tokens) ⊎ (length tokens ≤ i) → behind (drop i tokens) ≡ drop (i + 1) tokens
behind_of tokens i token (inl h) = ap behind (drop_more tokens i token h)
behind_of tokens i token (inr h) = ap behind (drop_all i tokens h) ∙ sym (drop_all (i + 1) tokens (omega (arith, h)))

pub behind-drop : (tokens : List Token) (i : ℕ) → behind (drop i tokens) ≡ drop (i + 1) tokens
behind-drop [] i = ap behind (drop_all i [] (omega arith)) ∙ sym (drop_all (i + 1) [] (omega arith))
behind-drop (token ∷ ts) i = behind_of (token ∷ ts) i token (cases_lt i (length (token ∷ ts)))

pub fails_weaker : {P Q : ℕ → Type 0} (f : Fail ParseFault) → ((n : ℕ) → P n → Q n) → Fails f P → Fails f Q
fails_weaker NoMemory g h = tt
fails_weaker (Fault (TooDeep n)) g h = h
fails_weaker (Fault (Syntax n)) g h = g n h

pub lexeme_ended : (tokens : List Token) (at : ℕ) (l : Lexeme) → is_real l ≡ true → first (drop at tokens) ≡ l → Ended [] (lexeme l ∷ []) tokens at (at + 1)
lexeme_ended tokens at l r f = let t = there tokens at l f r in record {
  ahead = omega arith;
  within = omega (arith, t);
  passes = subst (Passes [] (lexeme l ∷ []) (drop at tokens)) (behind-drop tokens at) (lexeme_pass l (drop at tokens) r f);
}

pub lexeme_stopped : (tokens : List Token) (at : ℕ) (l : Lexeme) → at ≤ length tokens → (first (drop at tokens) ≡ l → ⊥) → Stopped [] (lexeme l ∷ []) tokens at at
lexeme_stopped tokens at l h n = record { ahead = omega arith; within = h; halts = lexeme_halt l (drop at tokens) n }
