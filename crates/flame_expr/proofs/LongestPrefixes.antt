-- The longest prefix.
use Rattle.std.proofs.Common.{◌≡◌, inl, inr, ℕ, ◌-◌, ◌<◌, ◌≤◌, List, [], ◌∷◌, length, drop, sym, ap, ◌∙◌, subst, arith, length-drop, drop-drop}
use Rattle.flame_lex.specs.declared.token.Token.{Token}
use Rattle.flame_spec.specs.Trees.{Expression}
use Rattle.flame_expr.specs.declared.lexemes.Lexeme.{Lexeme}
use Rattle.flame_expr.specs.OperatorLevels.{joins}
use Rattle.flame_expr.specs.ViablePrefixes.{Form, form, level, expr, End, left, whole, Goes, stay, done, IsLongest}
use Rattle.flame_expr.specs.ExpressionGrammar.{Reads}
use Rattle.flame_expr.specs.ReadParts.{left_of, Blocks, Passes, Halts, Ended, Stopped}
use Rattle.flame_expr.specs.Expressed.{IsExpressionAt, IsNoExpressionAt}
use Rattle.flame_expr.proofs.Derivations.{reads_go}

pub nothing_left : (ts : List Token) (e : End) → Goes [] ts e → length ts ≤ length (left_of e)
nothing_left ts e stay = omega arith
nothing_left ts e done = omega arith

pub blocks_none : (J : List Lexeme) → Blocks J []
blocks_none [] = tt
blocks_none (l ∷ J) = (λ token ts e f h. nothing_left (token ∷ ts) e h, blocks_none J)

-- what passes is the longest prefix
pub passed_longest : (J : List Lexeme) (n : Form) (ts : List Token) (k : ℕ) → k ≤ length ts → Passes J (form n ∷ []) ts (drop k ts) → IsLongest n ts k
passed_longest J n ts k le p = record {
  within = le;
  is_prefix = p.goes [] (left (drop k ts)) stay;
  longest = λ m lt l h. elim (p.bound [] (left (drop m ts)) (blocks_none J) h) [
    | inl i ↦ absurd (omega (arith, i, length-drop k ts, length-drop m ts))
    | inr i ↦ absurd (let j = nothing_left (drop k ts) (left (drop m ts)) i in omega (arith, j, length-drop k ts, length-drop m ts))
  ];
}

pub halted_longest : (J : List Lexeme) (n : Form) (ts : List Token) (k : ℕ) → k ≤ length ts → Halts J (form n ∷ []) ts (drop k ts) → IsLongest n ts k
halted_longest J n ts k le p = record {
  within = le;
  is_prefix = p.goes [];
  longest = λ m lt l h. let i = p.bound [] (left (drop m ts)) (blocks_none J) h in absurd (omega (arith, i, length-drop k ts, length-drop m ts));
}

-- what halts is not whole
pub halted_not_whole : (J : List Lexeme) (n : Form) (ts stop : List Token) → Halts J (form n ∷ []) ts stop → Goes (form n ∷ []) ts (whole stop) → ⊥
halted_not_whole J n ts stop p h = let i = p.bound [] (whole stop) (blocks_none J) h in absurd (omega (arith, i))

-- what passes and leaves tokens is not all of them
pub passed_not_all : (J : List Lexeme) (n : Form) (ts mid : List Token) → 0 < length mid → Passes J (form n ∷ []) ts mid → Goes (form n ∷ []) ts (whole []) → ⊥
passed_not_all J n ts mid l p h = elim (p.bound [] (whole []) (blocks_none J) h) [
  | inl i ↦ absurd (omega (arith, i))
  | inr i ↦ absurd (let j = nothing_left mid (whole []) i in omega (arith, j))
]

pub rest_at : (tokens : List Token) (at end : ℕ) → at ≤ end → drop (end - at) (drop at tokens) ≡ drop end tokens
rest_at tokens at end le = drop-drop (end - at) at tokens ∙ ap (λ n. drop n tokens) (omega (arith, le))

pub is_expression : (tokens : List Token) (at end : ℕ) (t : Expression) → at ≤ length tokens → Reads 6 (drop at tokens) t (drop end tokens) → Ended
    (joins 6) (expr ∷ []) tokens at end → IsExpressionAt tokens at t end
is_expression tokens at end t le r p = record {
  ahead = p.ahead;
  within = p.within;
  longest = passed_longest (joins 6) (level 6) (drop at tokens) (end - at) (omega (arith, p.ahead, p.within, length-drop at tokens))
      (subst (Passes (joins 6) (expr ∷ []) (drop at tokens)) (sym (rest_at tokens at end p.ahead)) p.passes);
  tree = r;
}

pub is_no_expression : (tokens : List Token) (at stop : ℕ) → at ≤ length tokens → Stopped (joins 6) (expr ∷ []) tokens at stop → IsNoExpressionAt tokens at stop
is_no_expression tokens at stop le p = record {
  ahead = p.ahead;
  within = p.within;
  longest = halted_longest (joins 6) (level 6) (drop at tokens) (stop - at) (omega (arith, p.ahead, p.within, length-drop at tokens))
      (subst (Halts (joins 6) (expr ∷ []) (drop at tokens)) (sym (rest_at tokens at stop p.ahead)) p.halts);
  none = λ e r. halted_not_whole (joins 6) (level 6) (drop at tokens) (drop stop tokens) p.halts (reads_go 6 [] (drop at tokens) (drop stop tokens) e (whole (drop stop tokens)) r done);
}
