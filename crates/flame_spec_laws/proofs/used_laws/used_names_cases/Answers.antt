-- The definitions compute, but for the digits of list numbers.
use Rattle.std.proofs.Common.{◌≡◌, ℕ, List, [], ◌∷◌, ◌++◌, ap, refl, ◌∙◌, arith}
use Rattle.std.specs.Prelude.{codes, decimal}
use Rattle.std.proofs.lemmas.Fmt.{decimal_digit}
use Rattle.flame_spec.specs.declared.faults.NameFault.{NameFault}
use Rattle.flame_spec.specs.declared.faults.NameKind.TheVariants.{Clash, UnknownUnit, LongUnit}
use Rattle.flame_spec.specs.Refusals.{name_fault}
use Rattle.flame_spec.proofs.ConditionForms.{leaf_faults-And}
use Rattle.flame_spec_laws.proofs.NameKnowledge.{leaf-Compare, leaf-Time}
use Rattle.flame_spec_laws.proofs.used_laws.used_names_cases.Goals as goal

abbrev clash_at : List ℕ → List NameFault
clash_at zero =
    name_fault Clash
    (codes "/xmodel/agents/" ++ (((zero ++ codes "/memory") ++ (codes "/" ++ zero)) ++ codes "/name"))
    (codes "X")
    ∷ []

abbrev units_at : List ℕ → List ℕ → List NameFault
units_at zero two =
    name_fault UnknownUnit (codes "/xmodel/environment/timeUnits/" ++ (zero ++ codes "/unit")) (codes "hour")
    ∷ name_fault LongUnit (codes "/xmodel/environment/timeUnits/" ++ (two ++ codes "/period")) (codes "age")
    ∷ []

pub returns-clause-clash : goal.returns-clause-clash
returns-clause-clash c = ap clash_at (decimal_digit 0 (omega arith))

pub returns-clause-units : goal.returns-clause-units
returns-clause-units c =
    ap (λ zero. units_at zero (decimal 2)) (decimal_digit 0 (omega arith))
    ∙ ap (units_at (48 ∷ [])) (decimal_digit 2 (omega arith))

zero_is : decimal 0 ≡ 48 ∷ []
zero_is = decimal_digit 0 (omega arith)

one_is : decimal 1 ≡ 49 ∷ []
one_is = decimal_digit 1 (omega arith)

four_is : decimal 4 ≡ 52 ∷ []
four_is = decimal_digit 4 (omega arith)

six_is : decimal 6 ≡ 54 ∷ []
six_is = decimal_digit 6 (omega arith)

pub returns-clause-arrays : goal.returns-clause-arrays
returns-clause-arrays c = simp (leaf_faults-And, leaf-Compare, leaf-Time, zero_is) refl

pub returns-clause-wide : goal.returns-clause-wide
returns-clause-wide c = simp (zero_is, one_is, four_is, six_is) refl
