-- A run has one end.
use Rattle.std.proofs.Common.{◌≡◌, List, sym, ap, ◌∙◌, subst}
use Rattle.std.specs.Prelude.{ℤ}
use Rattle.flame_spec.specs.declared.outcomes.Outcome.{Outcome}
use Rattle.flame_code.specs.Routines.{Routine}
use Rattle.flame_code.specs.Machine.{Given, Config, End, returned, faulted}
use Rattle.flame_code.specs.Meanings.{Runs, last, more, back, fall, entry, resumed, Means, Entry, outcome_of}

module _ (g : Given) (helpers : List Routine) where
  -- the run of the same helper
  same_inner : (r s : Routine) (args args2 : List ℤ) (d d2 : Config) (e : End) → r ≡ s → args ≡ args2 → d ≡ d2 → Runs g helpers r (entry args d.fuel) e → Runs g helpers s (entry args2 d2.fuel) e
  same_inner r s args args2 d d2 e p q t runs =
      subst (λ x. Runs g helpers s (entry args2 x.fuel) e) t (subst (λ x. Runs g helpers s (entry x d.fuel) e) q (subst (λ x. Runs g helpers x (entry args d.fuel) e) p runs))

  pub one_end : (r : Routine) (c : Config) (o p : End) → Runs g helpers r c o → Runs g helpers r c p → o ≡ p
  one_end r c o p (last e) (last f) = cc
  one_end r c o p (last e) (more f s) = cc
  one_end r c o p (last e) (back h args d inner v left f t i s) = cc
  one_end r c o p (last e) (fall h args d inner k f t i) = cc
  one_end r c o p (more e q) (last f) = cc
  one_end r c o p (more {d = d} e q) (more {d = d2} f s) =
      let same : d ≡ d2 = cc in one_end r d2 o p (subst (λ x. Runs g helpers r x o) same q) s
  one_end r c o p (more e q) (back h args d inner v left f t i s) = cc
  one_end r c o p (more e q) (fall h args d inner k f t i) = cc
  one_end r c o p (back h args d inner v left e t i q) (last f) = cc
  one_end r c o p (back h args d inner v left e t i q) (more f s) = cc
  one_end r c o p (back h args d inner v left e t i q) (back h2 args2 d2 inner2 v2 left2 f t2 i2 s) =
      let sa : args ≡ args2 = cc in let sd : d ≡ d2 = cc in let si : inner ≡ inner2 = cc in
      let same = one_end inner2 (entry args2 d2.fuel) (returned v left) (returned v2 left2) (same_inner inner inner2 args args2 d d2 _ si sa sd i) i2 in
      let sv : v ≡ v2 = cc in let sl : left ≡ left2 = cc in
      one_end r (resumed v2 left2.fuel d2) o p
      (subst (λ x. Runs g helpers r (resumed v2 left2.fuel x) o) sd (subst (λ x. Runs g helpers r (resumed v2 x.fuel d) o) sl (subst (λ x. Runs g helpers r (resumed x left.fuel d) o) sv q))) s
  one_end r c o p (back h args d inner v left e t i q) (fall h2 args2 d2 inner2 k f t2 i2) =
      let sa : args ≡ args2 = cc in let sd : d ≡ d2 = cc in let si : inner ≡ inner2 = cc in
      let same = one_end inner2 (entry args2 d2.fuel) (returned v left) (faulted k) (same_inner inner inner2 args args2 d d2 _ si sa sd i) i2 in
      cc
  one_end r c o p (fall h args d inner k e t i) (last f) = cc
  one_end r c o p (fall h args d inner k e t i) (more f s) = cc
  one_end r c o p (fall h args d inner k e t i) (back h2 args2 d2 inner2 v2 left2 f t2 i2 s) =
      let sa : args ≡ args2 = cc in let sd : d ≡ d2 = cc in let si : inner ≡ inner2 = cc in
      let same = one_end inner2 (entry args2 d2.fuel) (faulted k) (returned v2 left2) (same_inner inner inner2 args args2 d d2 _ si sa sd i) i2 in
      cc
  one_end r c o p (fall h args d inner k e t i) (fall h2 args2 d2 inner2 k2 f t2 i2) =
      let sa : args ≡ args2 = cc in let sd : d ≡ d2 = cc in let si : inner ≡ inner2 = cc in
      one_end inner2 (entry args2 d2.fuel) (faulted k) (faulted k2) (same_inner inner inner2 args args2 d d2 _ si sa sd i) i2

pub one_meaning : (helpers : List Routine) (r : Routine) (from : Entry) (o p : Outcome) → Means helpers r from o → Means helpers r from p → o ≡ p
one_meaning helpers r from o p m n =
    m.same ∙ ap outcome_of (one_end _ helpers r _ m.end n.end m.runs n.runs) ∙ sym n.same
