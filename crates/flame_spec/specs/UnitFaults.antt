-- Faults of the names of time units.
use Rattle.std.specs.Prelude.{ℕ, ℤ, pos, ◌*ℤ◌, int_lt, List, ◌++◌, take, codes, Bool, true, false, if◌then◌else◌, Option, option_map}
use Rattle.std.specs.Option.{option_map_or}
use Rattle.flame_spec.specs.declared.faults.NameFault.{NameFault}
use Rattle.flame_spec.specs.declared.faults.NameKind.TheVariants.{Duplicate, UnknownUnit, LongUnit}
use Rattle.flame_spec.specs.declared.models.TimeUnit.{TimeUnit}
use Rattle.flame_spec.specs.Lists.{each}
use Rattle.flame_spec.specs.TimeUnits.{unit_length}
use Rattle.flame_spec.specs.KnownNames.{is_among, unit_names}
use Rattle.flame_spec.specs.Paths.{at_key, at_number}
use Rattle.flame_spec.specs.Refusals.{fault_where}

-- how many iterations the unit has: its period times the length of its own unit, which is one of the earlier ones [own]
abbrev pub length_after : List TimeUnit → TimeUnit → Option ℤ
length_after earlier unit = option_map (λ length. unit.period *ℤ length) (unit_length earlier unit.unit)

-- more than 2147483647 iterations [own]
abbrev pub is_long : ℤ → Bool
is_long length = int_lt (pos 2147483647) length

-- a unit is measured in `iteration` or an earlier unit, and is not long; where that unit is unknown, nothing else
-- is asked
-- [own]
abbrev pub measure_faults : List TimeUnit → List ℕ → TimeUnit → List NameFault
measure_faults earlier path unit =
    if is_among unit.unit (unit_names earlier)
    then
    fault_where
    (option_map_or is_long (length_after earlier unit) false)
    LongUnit
    (at_key path (codes "period"))
    unit.name
    else fault_where true UnknownUnit (at_key path (codes "unit")) unit.unit

-- the faults of a unit at this path behind the earlier ones: no earlier one, nor `iteration`, has its name [own]
abbrev pub unit_faults : List TimeUnit → List ℕ → TimeUnit → List NameFault
unit_faults earlier path unit =
    fault_where (is_among unit.name (unit_names earlier)) Duplicate (at_key path (codes "name")) unit.name
    ++ measure_faults earlier path unit

-- the faults of the units of the list at this path [own]
abbrev pub units_faults : List ℕ → List TimeUnit → List NameFault
units_faults path units = each (λ i unit. unit_faults (take i units) (at_number path i) unit) units
