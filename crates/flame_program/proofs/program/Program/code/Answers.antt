-- There is a code for each function.
use Rattle.std.proofs.Common.{◌≡◌, ◌<◌, List, length, refl, ap, sym, ◌∙◌, arith}
use Rattle.std.specs.Prelude.{slice_get}
use Rattle.std.proofs.lemmas.List.{length-map}
use Rattle.std.proofs.lemmas.Option.{slice_get_read}
use Rattle.flame_spec.specs.Before.{function_count}
use Rattle.flame_body.specs.FunctionBodies.{function_bodies}
use Rattle.flame_body.proofs.NumberedBodies.{bodies-by-number}
use Rattle.flame_code.specs.Routines.{Routine}
use Rattle.flame_code_laws.specs.CodeOutcomes.{code_of}
use Rattle.flame_program.specs.SourceCodes.{function_codes}
use Rattle.flame_program.proofs.program.Program.code.Goals as goal

pub bounds-items-function : goal.bounds-items-function
bounds-items-function c =
    let source = c.args.self.now in
    let codes : c.items.result.now ≡ function_codes source =
    c.items.ensures ∙ c.self.invariant.parts.coded ∙ ap function_codes c.self.view_is in
    let many : length c.items.result.now ≡ function_count source.model =
    ap length codes ∙ length-map (function_bodies source.model source.units) code_of
    ∙ bodies-by-number.function_count source.model source.units in
    omega (arith, c.requires, many)

pub returns : goal.returns
returns c =
    let source = c.args.self.now in
    let all = c.items.result.now in
    let codes : all ≡ function_codes source =
    c.items.ensures ∙ c.self.invariant.parts.coded ∙ ap function_codes c.self.view_is in
    let many : length all ≡ function_count source.model =
    ap length codes ∙ length-map (function_bodies source.model source.units) code_of
    ∙ bodies-by-number.function_count source.model source.units in
    let within : c.args.function < length all = omega (arith, c.requires, many) in
    ap (λ (rs : List Routine). slice_get rs c.args.function) (sym codes)
    ∙ slice_get_read all (length all) c.args.function c.index-items-function.result refl within c.index-items-function.is
