-- Widths of rows with one variable more.
use Rattle.std.proofs.Common.{◌≡◌, ℕ, ◌+◌, List, [], ◌∷◌, ◌++◌, ap, ◌&&◌, min, arith}
use Rattle.std.specs.Prelude.{nat_lt}
use Rattle.flame_spec.specs.declared.models.Variable.{Variable}
use Rattle.flame_spec.specs.Columns.{width, width_of, is_array}
use Rattle.flame_names.specs.VariableTables.{counted}

pub width-push : (variables : List Variable) (variable : Variable)
    → width (variables ++ variable ∷ []) ≡ width variables + width_of variable
width-push [] variable = omega arith
width-push (first ∷ variables) variable = let e = width-push variables variable in omega (arith, e)

-- a width that stands still, and one more
pub counted-more : (a b : ℕ) → min (counted a + b) 18446744073709551615 ≡ counted (a + b)
counted-more a b = omega arith

-- with the last variable the row is too wide
pub wide-push : (variables : List Variable) (variable : Variable)
    → (is_array variable && nat_lt 4096 (width (variables ++ variable ∷ [])))
    ≡ (is_array variable && nat_lt 4096 (width variables + width_of variable))
wide-push variables variable = ap (λ w. is_array variable && nat_lt 4096 w) (width-push variables variable)
