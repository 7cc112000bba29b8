-- The codes of a source: those of its functions and of its helpers.
use Rattle.std.specs.Prelude.{List, map, length}
use Rattle.flame_spec.specs.declared.outcomes.Source.{Source}
use Rattle.flame_spec.specs.Definitions.{helpers}
use Rattle.flame_body.specs.FunctionBodies.{function_bodies, helper_bodies}
use Rattle.flame_code.specs.HelperCodes.{HelperCodes}
use Rattle.flame_code.specs.Routines.{Routine}
use Rattle.flame_code_laws.specs.CodeOutcomes.{code_of}

-- the codes of the model's functions, in document order [own]
abbrev pub function_codes : Source → List Routine
function_codes source = map code_of (function_bodies source.model source.units)

-- the codes of the helpers and their numbers of parameters, in source order [C, 6.9.1]
abbrev pub helper_codes : Source → HelperCodes
helper_codes source = record {
  routines = map code_of (helper_bodies source.model source.units);
  parameters = map (λ d. length d.parameters) (helpers source.model source.units);
}
