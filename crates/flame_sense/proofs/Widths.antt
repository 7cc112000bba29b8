-- Columns, variable by variable.
use Rattle.std.proofs.Common.{◌≡◌, ℕ, ◌+◌, ◌<◌, ◌≤◌, List, ◌∷◌, length, take, drop, get_or, sym, ap, ◌∙◌, Bool, true, false, cond, Some, arith}
use Rattle.std.proofs.lemmas.List.{at_drop_more, at_drop_all}
use Rattle.std.specs.Str.{bytes_eq}
use Rattle.flame_spec.specs.declared.models.Variable.{Variable}
use Rattle.flame_spec.specs.Columns.{width_of, width, column, columned_from}
use Rattle.flame_spec.proofs.VariableWidths.{width_more}
use Rattle.flame_sense.specs.StandsFor.{within_reach}

-- the variables that stand before
pub next_found :
    (passes : Variable → Bool) (variables : List Variable) (i : ℕ) (variable : Variable)
    → i < length variables
    → variable ≡ get_or variables i variable
    → passes variable ≡ false
    → columned_from passes (width (take i variables)) (drop i variables)
    ≡ columned_from passes (width (take (i + 1) variables)) (drop (i + 1) variables)
next_found passes variables i variable h is fails =
    at_drop_more (columned_from passes (width (take i variables))) variables i variable h
    ∙ ap (λ v. columned_from passes (width (take i variables)) (v ∷ drop (i + 1) variables)) (sym is)
    ∙ ap (λ b. cond b (Some (width (take i variables), variable))
    (columned_from passes (width (take i variables) + width_of variable) (drop (i + 1) variables))) fails
    ∙ ap (λ n. columned_from passes n (drop (i + 1) variables)) (sym (width_more variables i variable h is))

-- the same for the column of a name
abbrev pub named_behind : List ℕ → ℕ → List Variable → ℕ
named_behind name at variables = within_reach (at + column name variables)

pub this_named :
    (name : List ℕ) (variables : List Variable) (i : ℕ) (variable : Variable) (at whole : ℕ)
    → i < length variables
    → variable ≡ get_or variables i variable
    → bytes_eq variable.name name ≡ true
    → at ≤ 18446744073709551615
    → whole ≡ named_behind name at (drop i variables)
    → at ≡ whole
this_named name variables i variable at whole h is fits_it fits w =
    let n : within_reach (at + 0) ≡ at = omega arith in
    sym (w ∙ at_drop_more (named_behind name at) variables i variable h
    ∙ ap (λ v. named_behind name at (v ∷ drop (i + 1) variables)) (sym is)
    ∙ ap (λ b. within_reach (at + cond b 0 (width_of variable + column name (drop (i + 1) variables)))) fits_it
    ∙ n)

pub no_named :
    (name : List ℕ) (variables : List Variable) (i at whole : ℕ)
    → length variables ≤ i
    → at ≤ 18446744073709551615
    → whole ≡ named_behind name at (drop i variables)
    → at ≡ whole
no_named name variables i at whole h fits w =
    let n : within_reach (at + 0) ≡ at = omega arith in
    sym (w ∙ at_drop_all (named_behind name at) variables i h ∙ n)
