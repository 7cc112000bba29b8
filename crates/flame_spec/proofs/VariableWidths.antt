-- How wide variables are one behind another.
use Rattle.std.proofs.Common.{◌≡◌, ℕ, ◌+◌, ◌<◌, List, [], ◌∷◌, ◌++◌, length, take, get_or, sym, ap, ◌∙◌, arith}
use Rattle.std.proofs.lemmas.List.{take_more}
use Rattle.flame_spec.specs.declared.models.Variable.{Variable}
use Rattle.flame_spec.specs.Columns.{width_of, width}

-- the widths of two lists
pub width-append : (xs ys : List Variable) → width (xs ++ ys) ≡ width xs + width ys
width-append [] ys = omega arith
width-append (x ∷ xs) ys = let e = width-append xs ys in omega (arith, e)

-- the width of one variable more
pub width_more :
    (variables : List Variable) (i : ℕ) (variable : Variable)
    → i < length variables
    → variable ≡ get_or variables i variable
    → width (take (i + 1) variables) ≡ width (take i variables) + width_of variable
width_more variables i variable h is =
    ap width (take_more variables i variable h)
    ∙ width-append (take i variables) (get_or variables i variable ∷ [])
    ∙ ap (λ v. width (take i variables) + (width_of v + 0)) (sym is)
    ∙ (omega arith)
