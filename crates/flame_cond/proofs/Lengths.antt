-- The units of a part of a condition have lengths where those of the whole do.
use Rattle.std.proofs.Common.{◌≡◌, Bool, true, false, true≢false, ◌&&◌, List, IsTrue, sym, ap, ◌∙◌}
use Rattle.flame_spec.specs.declared.conditions.Condition.{Condition, And, Or}
use Rattle.flame_spec.specs.declared.models.TimeUnit.{TimeUnit}
use Rattle.flame_spec.specs.Conditions.{has_lengths}
use Rattle.flame_spec.proofs.ConditionForms.{has_lengths-And, has_lengths-Or}

second_true : (b c : Bool) → (b && c) ≡ true → c ≡ true
second_true true c h = h
second_true false c h = absurd (true≢false (sym h))

pub second_of_both : (units : List TimeUnit) (whole a b part : Condition)
    → whole ≡ And a b → part ≡ b → IsTrue (has_lengths units whole) → IsTrue (has_lengths units part)
second_of_both units whole a b part is same h =
    ap (has_lengths units) same
    ∙ second_true (has_lengths units a) (has_lengths units b) (sym (ap (has_lengths units) is ∙ has_lengths-And units a b) ∙ h)

pub second_of_either : (units : List TimeUnit) (whole a b part : Condition)
    → whole ≡ Or a b → part ≡ b → IsTrue (has_lengths units whole) → IsTrue (has_lengths units part)
second_of_either units whole a b part is same h =
    ap (has_lengths units) same
    ∙ second_true (has_lengths units a) (has_lengths units b) (sym (ap (has_lengths units) is ∙ has_lengths-Or units a b) ∙ h)
