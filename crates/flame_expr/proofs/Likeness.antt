-- Rests that begin alike.
use Rattle.std.proofs.Common.{◌≡◌, inl, inr, ℕ, ◌<◌, List, length, drop, sym, subst}
use Rattle.flame_lex.specs.declared.token.Token.{Token}
use Rattle.flame_expr.specs.declared.lexemes.Lexeme.{Lexeme}
use Rattle.flame_expr.specs.Lexemes.{first}
use Rattle.flame_expr.specs.ViablePrefixes.{Symbol, End, left}
use Rattle.flame_expr.proofs.Heads.{One}
use Rattle.flame_expr.proofs.Parts.{GoesAny, any_heads, any_all, any_from, stay_any}
use Rattle.flame_expr.proofs.Ends.{EndedAny, StoppedAny}

alike_goes : (A B : List (List Symbol)) (K : List Symbol) (ts : List Token) (e : End) → 0 < length B → any_heads A (first ts) ≡ any_heads B (first ts) → GoesAny A K ts e → GoesAny B K ts e
alike_goes A B K ts e n f h = elim (any_all A K ts e h) [
  | inl i ↦ subst (GoesAny B K ts) (sym i) (stay_any B K ts n)
  | inr i ↦ any_from B K ts e (subst (λ hs. One hs K ts e) f i)
]

pub alike_ended : (J : List Lexeme) (A B : List (List Symbol)) (tokens : List Token) (at end : ℕ) → 0 < length A → 0 < length B → any_heads A
    (first (drop at tokens)) ≡ any_heads B (first (drop at tokens)) → EndedAny J A tokens at end → EndedAny J B tokens at end
alike_ended J A B tokens at end m n f p = record {
  ahead = p.ahead;
  within = p.within;
  passes = record {
    shorter = p.passes.shorter;
    goes = λ K e h. alike_goes A B K (drop at tokens) e n f (p.passes.goes K e h);
    bound = λ K e b h. p.passes.bound K e b (alike_goes B A K (drop at tokens) e m (sym f) h);
  };
}

pub alike_stopped : (J : List Lexeme) (A B : List (List Symbol)) (tokens : List Token) (at stop : ℕ) → 0 < length A → 0 < length B → any_heads A
    (first (drop at tokens)) ≡ any_heads B (first (drop at tokens)) → StoppedAny J A tokens at stop → StoppedAny J B tokens at stop
alike_stopped J A B tokens at stop m n f p = record {
  ahead = p.ahead;
  within = p.within;
  halts = record {
    shorter = p.halts.shorter;
    goes = λ K. alike_goes A B K (drop at tokens) (left (drop stop tokens)) n f (p.halts.goes K);
    bound = λ K e b h. p.halts.bound K e b (alike_goes B A K (drop at tokens) e m (sym f) h);
  };
}
