use Rattle.std.proofs.Common.{◌≡◌, ◌⊎◌, inl, inr, ℕ, ◌+◌, ◌-◌, ◌≤◌, List, [], length, drop, sym, subst, arith, length-drop}
use Rattle.flame_lex.specs.declared.token.Token.{Token}
use Rattle.flame_spec.specs.Trees.{Expression}
use Rattle.flame_expr.specs.ViablePrefixes.{level, whole, done, IsLongest}
use Rattle.flame_expr.specs.ExpressionGrammar.{Reads}
use Rattle.flame_expr.specs.Expressed.{IsExpressionAt, IsNoExpressionAt}
use Rattle.flame_expr.proofs.Derivations.{reads_go}
use Rattle.flame_expr.proofs.Meanings.{matches_means, means_level}
use Rattle.flame_expr.proofs.LongestPrefixes.{rest_at}
use Rattle.flame_expr.proofs.Searches.{Longest, longest}
use Rattle.flame_expr.proofs.laws.read_places.Goals as goal

-- a place so far behind another
back : (at k : ℕ) → (at + k) - at ≡ k
back at k = omega arith

there : (tokens : List Token) (at k : ℕ) → drop k (drop at tokens) ≡ drop (at + k) tokens
there tokens at k = subst (λ n. drop n (drop at tokens) ≡ drop (at + k) tokens) (back at k) (rest_at tokens at (at + k) (omega arith))

abbrev Rest : List Token → ℕ → Expression → List Token → Type 0
Rest tokens at e rest = Reads 6 (drop at tokens) e rest

place : (tokens : List Token) (at : ℕ) → at ≤ length tokens → Longest (level 6) (drop at tokens) →
    ((e : Expression) × (end : ℕ) × IsExpressionAt tokens at e end) ⊎ ((stop : ℕ) × IsNoExpressionAt tokens at stop)
place tokens at h l =
    let k = l.count in
    let within : at + k ≤ length tokens = omega (arith, h, l.longest.within, length-drop at tokens) in
    let is : IsLongest (level 6) (drop at tokens) ((at + k) - at) = subst (IsLongest (level 6) (drop at tokens)) (sym (back at k)) l.longest in
    elim l.ends [
      | inl i ↦ (let e = means_level 6 (drop at tokens) (drop k (drop at tokens)) (omega arith) (matches_means (level 6) (drop at tokens) (drop k (drop at tokens)) i) in
          inl (
            e.0,
            at + k,
            record {
              ahead = omega arith;
              within = within;
              longest = is;
              tree = subst (Rest tokens at e.0) (there tokens at k) e.1;
            },
          ))
      | inr i ↦ inr (
        at + k,
        record {
          ahead = omega arith;
          within = within;
          longest = is;
          none = λ e r. i (reads_go 6 [] (drop at tokens) (drop k (drop at tokens)) e (whole (drop k (drop at tokens))) (subst (Rest tokens at e) (sym (there tokens at k)) r) done);
        },
      )
    ]

pub returns : goal.returns
returns c = λ tokens at h. place tokens at h (longest (level 6) (drop at tokens))
