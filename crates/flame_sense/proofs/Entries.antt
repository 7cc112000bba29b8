-- What helpers begin with.
use Rattle.std.proofs.Common.{◌≡◌, ℕ, ◌+◌, ◌<◌, List, [], ◌∷◌, length, drop, get_or, refl, ap, ◌∙◌, arith, drop-drop}
use Rattle.std.specs.Prelude.{ℤ, pos}
use Rattle.std.proofs.lemmas.List.{at_drop_more, get_or-drop}
use Rattle.flame_spec.specs.declared.trees.Parameter.{Parameter}
use Rattle.flame_spec.specs.Conditions.{number_at}
use Rattle.flame_meaning.specs.Scenes.{Local}
use Rattle.flame_meaning.specs.HelperCalls.{parameter_locals}

first_taken :
    (p : Parameter) (ps : List Parameter) (values : List ℤ) (locals : List Local)
    → parameter_locals (p ∷ ps) values locals
    ≡ parameter_locals ps (drop 1 values) (record { name = p.name; value = number_at values 0 } ∷ locals)
first_taken p ps [] locals = refl
first_taken p ps (v ∷ values) locals = refl

-- the parameter at i takes the value at i
pub next_parameter :
    (ps : List Parameter) (values : List ℤ) (i : ℕ) (d : Parameter) (locals : List Local)
    → i < length ps
    → parameter_locals (drop i ps) (drop i values) locals
    ≡ parameter_locals (drop (i + 1) ps) (drop (i + 1) values)
    (record { name = (get_or ps i d).name; value = number_at values i } ∷ locals)
next_parameter ps values i d locals h =
    let same : i + 0 ≡ i = omega arith in
    at_drop_more (λ l. parameter_locals l (drop i values) locals) ps i d h
    ∙ first_taken (get_or ps i d) (drop (i + 1) ps) (drop i values) locals
    ∙ ap (λ l. parameter_locals (drop (i + 1) ps) l (record { name = (get_or ps i d).name; value = number_at (drop i values) 0 } ∷ locals)) (drop-drop 1 i values)
    ∙ ap (λ v. parameter_locals (drop (i + 1) ps) (drop (i + 1) values) (record { name = (get_or ps i d).name; value = v } ∷ locals))
    (get_or-drop i values 0 (pos 0) ∙ ap (number_at values) same)
