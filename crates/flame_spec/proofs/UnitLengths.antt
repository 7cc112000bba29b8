-- How long a unit of time is, where one unit more is named.
use Rattle.std.proofs.Common.{◌≡◌, ℕ, List, ◌∷◌, ◌++◌, ap, ◌∙◌, cond, []}
use Rattle.std.specs.Str.{bytes_eq}
use Rattle.std.proofs.lemmas.List.{reverse-append}
use Rattle.flame_rows.proofs.Bytes.{bytes_eq-sym}
use Rattle.flame_spec.specs.declared.models.TimeUnit.{TimeUnit}
use Rattle.flame_spec.specs.TimeUnits.{length_back, unit_length}
use Rattle.flame_spec.specs.UnitFaults.{length_after}

-- the length of a unit behind those before it
pub unit_length-push : (units : List TimeUnit) (unit : TimeUnit) (name : List ℕ)
    → unit_length (units ++ unit ∷ []) name
    ≡ cond (bytes_eq name unit.name) (length_after units unit) (unit_length units name)
unit_length-push units unit name =
    ap (λ l. length_back l name) (reverse-append units (unit ∷ []))
    ∙ ap (λ b. cond b (length_after units unit) (unit_length units name)) (bytes_eq-sym unit.name name)
