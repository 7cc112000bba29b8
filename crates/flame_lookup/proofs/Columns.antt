-- Columns, variable by variable.
use Rattle.std.proofs.Common.{◌≡◌, ℕ, ◌+◌, ◌<◌, List, ◌∷◌, length, drop, get_or, sym, ap, ◌∙◌, Bool, cond, Option, Some}
use Rattle.std.proofs.lemmas.List.{at_drop_more}
use Rattle.flame_spec.specs.declared.models.Variable.{Variable}
use Rattle.flame_spec.specs.Columns.{width_of, columned_from}

-- one variable more in front
pub columned_before :
    (passes : Variable → Bool) (variables : List Variable) (i : ℕ) (variable : Variable) (at next : ℕ)
    (found : Option (ℕ × Variable))
    → i < length variables
    → variable ≡ get_or variables i variable
    → next ≡ at + width_of variable
    → found ≡ columned_from passes next (drop (i + 1) variables)
    → cond (passes variable) (Some (at, variable)) found ≡ columned_from passes at (drop i variables)
columned_before passes variables i variable at next found h is n e =
    ap (cond (passes variable) (Some (at, variable)))
    (e ∙ ap (λ column. columned_from passes column (drop (i + 1) variables)) n)
    ∙ sym
    (at_drop_more (columned_from passes at) variables i variable h
    ∙ ap (λ v. columned_from passes at (v ∷ drop (i + 1) variables)) (sym is))
