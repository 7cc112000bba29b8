-- First faults of lists that are laid end to end.
use Rattle.std.proofs.Common.{◌≡◌, List, [], ◌++◌, sym, subst, ap, ◌∙◌}
use Rattle.flame_rows.specs.declared.fails.Fail.{Fail}
use Rattle.flame_spec.specs.declared.faults.CheckFault.{CheckFault}
use Rattle.flame_spec.specs.FirstFaults.{FailsFirst}
use Rattle.flame_spec.proofs.FaultLists.{FailsFirst-behind, FailsFirst-front}

pub first_behind_as :
    (all xs ys : List CheckFault) (fail : Fail CheckFault)
    → all ≡ xs ++ ys
    → xs ≡ []
    → FailsFirst ys fail
    → FailsFirst all fail
first_behind_as all xs ys fail is none h = subst (λ l. FailsFirst l fail) (sym is) (FailsFirst-behind fail xs ys none h)

-- what is left once these have no faults
pub clean-next :
    (all left here rest : List CheckFault)
    → all ≡ left
    → left ≡ here ++ rest
    → here ≡ []
    → all ≡ rest
clean-next all left here rest is next none = is ∙ next ∙ ap (λ l. l ++ rest) none

-- the first of what is left is the first of all
pub first_next :
    (all left here rest : List CheckFault) (fail : Fail CheckFault)
    → all ≡ left
    → left ≡ here ++ rest
    → FailsFirst here fail
    → FailsFirst all fail
first_next all left here rest fail is next h = FailsFirst-front fail all here rest (is ∙ next) h
