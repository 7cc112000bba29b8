-- There is a code for each function.
use Rattle.std.proofs.Common.{length, ap, ◌∙◌}
use Rattle.std.proofs.lemmas.List.{length-map}
use Rattle.flame_body.specs.FunctionBodies.{function_bodies}
use Rattle.flame_body.proofs.NumberedBodies.{bodies-by-number}
use Rattle.flame_code_laws.specs.CodeOutcomes.{code_of}
use Rattle.flame_program.specs.SourceCodes.{function_codes}
use Rattle.flame_program.proofs.program.Program.functions.Goals as goal

pub returns : goal.returns
returns c =
    let source = c.args.self.now in
    c.len.ensures ∙ ap length (c.self.invariant.parts.coded ∙ ap function_codes c.self.view_is)
    ∙ length-map (function_bodies source.model source.units) code_of
    ∙ bodies-by-number.function_count source.model source.units
