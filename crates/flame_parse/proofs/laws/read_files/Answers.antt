use Rattle.std.proofs.Common.{◌≡◌, ◌⊎◌, inl, inr, ℕ, List, [], ◌∷◌, length, drop, sym, subst, arith}
use Rattle.std.proofs.lemmas.Bool.{cases_lt}
use Rattle.std.proofs.Math.ListN.{drop_of_length-le}
use Rattle.flame_lex.specs.declared.token.Token.{Token}
use Rattle.flame_expr.specs.ViablePrefixes.{a_unit, form, left, whole, Goes, stay, done, Matches}
use Rattle.flame_expr.specs.Nesting.{NestsWithin, IsTooDeep}
use Rattle.flame_expr.proofs.Meanings.{matches_means}
use Rattle.flame_expr.proofs.Searches.{Longest, longest}
use Rattle.flame_expr.proofs.Depths.{depth_decided}
use Rattle.flame_parse.specs.StatementGrammar.{Defined}
use Rattle.flame_parse.specs.Parsing.{IsUnit, IsFile, IsNoUnit}
use Rattle.flame_parse.proofs.Derivations.{unit_goes}
use Rattle.flame_parse.proofs.FileMeanings.{means_unit}
use Rattle.flame_parse.proofs.laws.read_files.Goals as goal

abbrev Answer : List Token → Type 0
Answer tokens =
    ((ds : List Defined) × IsFile tokens ds)
    ⊎ (((n : ℕ) × IsTooDeep 64 tokens n)
    ⊎ ((n : ℕ) × IsNoUnit tokens n))

-- no file, where the longest prefix is none
no_file : (tokens : List Token) → NestsWithin 64 tokens → (l : Longest a_unit tokens) → ((ds : List Defined) → IsUnit tokens ds → ⊥) → Answer tokens
no_file tokens f l n = inr (inr (l.count, record { nests = f; longest = l.longest; none = n }))

-- a file has itself as its longest prefix
whole_prefix : (tokens : List Token) (ds : List Defined) → IsUnit tokens ds → Goes (form a_unit ∷ []) tokens (left (drop (length tokens) tokens))
whole_prefix tokens ds r = subst (λ ts. Goes (form a_unit ∷ []) tokens (left ts)) (sym (drop_of_length-le tokens (omega arith))) (unit_goes tokens [] ds (left []) r stay)

flat : (tokens : List Token) → NestsWithin 64 tokens → Longest a_unit tokens → Answer tokens
flat tokens f l = elim (cases_lt l.count (length tokens)) [
  | inl i ↦ no_file tokens f l (λ ds r. l.longest.longest (length tokens) i (omega arith) (whole_prefix tokens ds r))
  | inr i ↦ (let e : drop l.count tokens ≡ [] = drop_of_length-le tokens i in
      elim l.ends [
        | inl j ↦ (let d = means_unit tokens [] (matches_means a_unit tokens [] (subst (Matches a_unit tokens) e j)) in inl (d.0, record { nests = f; tree = d.1 }))
        | inr j ↦ no_file tokens f l (λ ds r. j (subst (Matches a_unit tokens) (sym e) (unit_goes tokens [] ds (whole []) r done)))
      ])
]

pub returns : goal.returns
returns c = λ tokens. elim (depth_decided tokens) [
  | inl f ↦ flat tokens f (longest a_unit tokens)
  | inr d ↦ inr (inl d)
]
