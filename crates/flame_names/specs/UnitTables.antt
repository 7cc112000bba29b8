-- Lengths of time units in a table.
use Rattle.std.specs.Prelude.{ℕ, ℤ, pos, negsuc, ◌*ℤ◌, List, [], ◌∷◌, ◌++◌, codes, true, Option, Some, None}
use Rattle.std.specs.Option.{is_some}
use Rattle.std.specs.Int.{int_max}
use Rattle.flame_spec.specs.declared.faults.NameFault.{NameFault}
use Rattle.flame_spec.specs.declared.faults.NameKind.TheVariants.{Duplicate, UnknownUnit, LongUnit}
use Rattle.flame_spec.specs.declared.models.TimeUnit.{TimeUnit}
use Rattle.flame_spec.specs.Paths.{at_key}
use Rattle.flame_spec.specs.Refusals.{fault_where}
use Rattle.flame_spec.specs.UnitFaults.{is_long}
use Rattle.flame_name_sets.specs.NameTables.{look}

-- the length, or the least number of 32 bits where it is below that [own]
abbrev pub floored : ℤ → ℤ
floored length = int_max length (negsuc 2147483647)

-- before any unit [own]
abbrev pub started : List (List ℕ × ℤ)
started = (codes "iteration", pos 1) ∷ []

-- the faults of the measure of a unit whose own unit has this length [own]
abbrev pub measure_at : List ℕ → TimeUnit → Option ℤ → List NameFault
measure_at path unit None = fault_where true UnknownUnit (at_key path (codes "unit")) unit.unit
measure_at path unit (Some length) =
    fault_where (is_long (unit.period *ℤ length)) LongUnit (at_key path (codes "period")) unit.name

-- the faults of a unit behind a table [own]
abbrev pub unit_at : List (List ℕ × ℤ) → List ℕ → TimeUnit → List NameFault
unit_at table path unit =
    fault_where (is_some (look unit.name table)) Duplicate (at_key path (codes "name")) unit.name
    ++ measure_at path unit (look unit.unit table)

-- the length in the table of a unit whose own unit has this length there [own]
abbrev pub length_of : TimeUnit → Option ℤ → ℤ
length_of unit None = pos 0
length_of unit (Some length) = floored (unit.period *ℤ length)

-- the table with the unit [own]
abbrev pub with_unit : List (List ℕ × ℤ) → TimeUnit → List (List ℕ × ℤ)
with_unit table unit = table ++ (unit.name, length_of unit (look unit.unit table)) ∷ []
