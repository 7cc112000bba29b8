-- The program that is loaded, or its refusal with its line.
use Rattle.flame_load.specs.LoadedSources.{loading}
use Rattle.flame_top.specs.RefusalLines.{load_line}
use Rattle.flame_top.proofs.GivenInputs.{given_in_lines}
use Rattle.flame_top.proofs.RefusedInputs.{load_stops}
use Rattle.flame_top.proofs.inputs.program_in.Goals as goal

pub returns-in-Ok-clause-gives : goal.returns-in-Ok-clause-gives
returns-in-Ok-clause-gives g c = λ told read held reads.
    let name = c.args.name.now in
    given_in_lines (load_line name) (loading read told name) c.in-Ok.program (c.in-Ok.ensures.gives told read held reads)

pub returns-in-Err-clause-gives : goal.returns-in-Err-clause-gives
returns-in-Err-clause-gives g c = λ told read held reads.
    let name = c.args.name.now in
    load_stops name c.in-Err.fail c.load_ending.result (loading read told name)
    (c.in-Err.ensures.gives told read held reads)
    c.load_ending.ensures.ending
