-- Lengths of time units.
use Rattle.std.specs.Prelude.{ℕ, ℤ, pos, ◌*ℤ◌, List, [], ◌∷◌, codes, Option, Some, None, option_map, if◌then◌else◌, reverse}
use Rattle.std.specs.Str.{bytes_eq}
use Rattle.flame_spec.specs.declared.models.TimeUnit.{TimeUnit}

-- how many iterations the unit of this name has, where the units stand with the last one first: `iteration` has one,
-- and a unit has its period times the length of the unit that it is measured in, which is declared before it [XMML]
abbrev pub length_back : List TimeUnit → List ℕ → Option ℤ
length_back [] name = if bytes_eq (codes "iteration") name then Some (pos 1) else None
length_back (unit ∷ earlier) name =
    if bytes_eq unit.name name
    then option_map (λ length. unit.period *ℤ length) (length_back earlier unit.unit)
    else length_back earlier name

-- how many iterations the unit of this name has [XMML]
abbrev pub unit_length : List TimeUnit → List ℕ → Option ℤ
unit_length units name = length_back (reverse units) name
