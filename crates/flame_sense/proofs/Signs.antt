-- Signs, the last one first.
use Rattle.std.proofs.Common.{◌≡◌, ℕ, ◌+◌, ◌<◌, List, [], ◌∷◌, ◌++◌, length, take, get_or, refl, ap, ◌∙◌}
use Rattle.std.specs.Prelude.{ℤ, Result, Ok, Err}
use Rattle.std.proofs.lemmas.List.{take_more}
use Rattle.flame_spec.specs.declared.faults.Fault.{Fault}
use Rattle.flame_spec.specs.declared.trees.Sign.{Sign}
use Rattle.flame_meaning.specs.Expressions.{on_value, signed_by, signs_value}

signs_push :
    (signs : List Sign) (sign : Sign) (v : ℤ)
    → signs_value (signs ++ sign ∷ []) v ≡ on_value (signed_by sign.kind sign.line v) (signs_value signs)
signs_push [] sign v = by_value (signed_by sign.kind sign.line v)
  where
    by_value : (r : Result ℤ Fault) → r ≡ on_value r (signs_value [])
    by_value (Ok w) = refl
    by_value (Err fault) = refl
signs_push (outer ∷ signs) sign v =
    ap (λ r. on_value r (signed_by outer.kind outer.line)) (signs_push signs sign v)
    ∙ by_value (signed_by sign.kind sign.line v)
  where
    by_value :
        (r : Result ℤ Fault)
        → on_value (on_value r (signs_value signs)) (signed_by outer.kind outer.line)
        ≡ on_value r (signs_value (outer ∷ signs))
    by_value (Ok w) = refl
    by_value (Err fault) = refl

pub signs_more :
    (signs : List Sign) (i : ℕ) (d : Sign) (v : ℤ)
    → i < length signs
    → signs_value (take (i + 1) signs) v
    ≡ on_value (signed_by (get_or signs i d).kind (get_or signs i d).line v) (signs_value (take i signs))
signs_more signs i d v h = ap (λ l. signs_value l v) (take_more signs i d h) ∙ signs_push (take i signs) (get_or signs i d) v
