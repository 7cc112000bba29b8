-- The functions of a model as the code lists them.
use Rattle.flame_spec.specs.Functions.{Place, at_type}
use Rattle.flame_depend.specs.declared.place.Placed.{Placed}

-- a function with its type, as the model has it [own]
abbrev pub shown : Placed → Place
shown placed = at_type placed.agent placed.kind.now placed.function.now
