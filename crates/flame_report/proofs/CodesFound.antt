-- The code of a function, or of a helper, is that of its body.
use Rattle.std.proofs.Common.{◌≡◌, ℕ, ◌<◌, length, Some, sym, ap, ◌∙◌}
use Rattle.std.specs.Prelude.{slice_get, option_map}
use Rattle.std.proofs.lemmas.Option.{same_Some, slice_get-map, slice_get_within}
use Rattle.flame_spec.specs.declared.outcomes.Source.{Source}
use Rattle.flame_spec.specs.Definitions.{Definition, helpers}
use Rattle.flame_spec.specs.Functions.{Place, functions}
use Rattle.flame_body.specs.FunctionBodies.{function_body, helper_body, function_bodies, helper_bodies}
use Rattle.flame_body.proofs.NumberedBodies.{bodies-by-number}
use Rattle.flame_code.specs.Routines.{Routine}
use Rattle.flame_compile.specs.Emit.{emitted}
use Rattle.flame_code_laws.specs.CodeOutcomes.{code_of}
use Rattle.flame_program.specs.SourceCodes.{function_codes, helper_codes}

-- the instructions of a function's code
pub function_instrs :
    (source : Source) (n : ℕ) (place : Place) (code : Routine)
    → slice_get (functions source.model) n ≡ Some place
    → slice_get (function_codes source) n ≡ Some code
    → code.instrs ≡ emitted (function_body source.model source.units n place).tree
function_instrs source n place code there at =
    ap (λ (r : Routine). r.instrs) (same_Some code (code_of (function_body source.model source.units n place))
    (sym at
    ∙ slice_get-map code_of (function_bodies source.model source.units) n
    ∙ ap (option_map code_of) (bodies-by-number.function_at source.model source.units n
    ∙ ap (option_map (function_body source.model source.units n)) there)))

-- the code of a helper
helper-code :
    (source : Source) (n : ℕ) (d : Definition)
    → slice_get (helpers source.model source.units) n ≡ Some d
    → slice_get (helper_codes source).routines n ≡ Some (code_of (helper_body source.model source.units n d))
helper-code source n d there =
    slice_get-map code_of (helper_bodies source.model source.units) n
    ∙ ap (option_map code_of) (bodies-by-number.helper_at source.model source.units n
    ∙ ap (option_map (helper_body source.model source.units n)) there)

-- each helper has a code
pub helper_within :
    (source : Source) (n : ℕ) (d : Definition)
    → slice_get (helpers source.model source.units) n ≡ Some d
    → n < length (helper_codes source).routines
helper_within source n d there =
    slice_get_within (helper_codes source).routines n (code_of (helper_body source.model source.units n d))
    (helper-code source n d there)

-- the instructions of a helper's code
pub helper_instrs :
    (source : Source) (n : ℕ) (d : Definition) (code : Routine)
    → slice_get (helpers source.model source.units) n ≡ Some d
    → slice_get (helper_codes source).routines n ≡ Some code
    → code.instrs ≡ emitted (helper_body source.model source.units n d).tree
helper_instrs source n d code there at =
    ap (λ (r : Routine). r.instrs) (same_Some code (code_of (helper_body source.model source.units n d))
    (sym at ∙ helper-code source n d there))
