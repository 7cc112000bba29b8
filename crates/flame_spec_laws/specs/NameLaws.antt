-- What holds of models without name faults. [own]
use Rattle.std.specs.Prelude.{◌≡◌, ℕ, pos, ◌*ℤ◌, [], map, codes, true, All, IsSomeAnd, Some, option_map, slice_get}
use Rattle.std.specs.List.{list_all}
use Rattle.flame_spec.specs.declared.models.Model.{Model}
use Rattle.flame_spec.specs.declared.models.TimeUnit.{TimeUnit}
use Rattle.flame_ops.specs.Ascii.{capitals}
use Rattle.flame_spec.specs.KnownNames.{unit_names, message_names}
use Rattle.flame_spec.specs.TimeUnits.{unit_length}
use Rattle.flame_spec.specs.NameFaults.{type_names, name_faults}
use Rattle.flame_spec.specs.WellFormed.{is_positive_int, is_well_formed_unit}
use Rattle.flame_spec_laws.specs.DistinctNames.{AreDistinct}

-- the constants differ, in capitals too
abbrev pub ConstantsDiffer : Type 0
ConstantsDiffer =
    (model : Model)
    → name_faults model ≡ []
    → AreDistinct model.constants × AreDistinct (map capitals model.constants)

-- the time units differ from each other and from `iteration`
abbrev pub UnitsDiffer : Type 0
UnitsDiffer = (model : Model) → name_faults model ≡ [] → AreDistinct (unit_names model.units)

-- the messages differ, in capitals too
abbrev pub MessagesDiffer : Type 0
MessagesDiffer =
    (model : Model)
    → name_faults model ≡ []
    → AreDistinct (message_names model.messages) × AreDistinct (map capitals (message_names model.messages))

-- the agent types differ
abbrev pub TypesDiffer : Type 0
TypesDiffer = (model : Model) → name_faults model ≡ [] → AreDistinct (type_names model.agents)

-- the length of each well formed time unit is known, and is a number from 1 to 2147483647
abbrev pub LengthsAreKnown : Type 0
LengthsAreKnown =
    (model : Model)
    → name_faults model ≡ []
    → list_all is_well_formed_unit model.units ≡ true
    → All
    (λ unit. IsSomeAnd (unit_length model.units unit.name) (λ length. is_positive_int length ≡ true))
    model.units

-- `iteration` has one iteration, and each time unit its period times the length of the unit that it is measured in
abbrev pub LengthsMultiply : Type 0
LengthsMultiply =
    (model : Model)
    → name_faults model ≡ []
    → (unit_length model.units (codes "iteration") ≡ Some (pos 1))
    × ((i : ℕ) (unit : TimeUnit)
    → slice_get model.units i ≡ Some unit
    → unit_length model.units unit.name
    ≡ option_map (λ length. unit.period *ℤ length) (unit_length model.units unit.unit))
