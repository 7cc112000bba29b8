-- The start that the population holds, or its refusal with its line.
use Rattle.flame_load.specs.StartReads.{starting}
use Rattle.flame_top.specs.RefusalLines.{start_line}
use Rattle.flame_top.proofs.GivenInputs.{given_in_lines, held_fits, held_is_first, held_leaves_room}
use Rattle.flame_top.proofs.RefusedInputs.{start_stops}
use Rattle.flame_top.proofs.inputs.start_in.Goals as goal

pub returns-in-Ok-clause-gives : goal.returns-in-Ok-clause-gives
returns-in-Ok-clause-gives g c = λ told held.
    let name = c.args.name.now in
    given_in_lines (start_line name) (starting told c.args.program.now.model c.args.turns name) c.in-Ok.start
    (c.in-Ok.ensures.gives told held)

pub returns-in-Ok-clause-fits : goal.returns-in-Ok-clause-fits
returns-in-Ok-clause-fits g c =
    held_fits c.args.program.now.model c.args.turns c.in-Ok.start c.read_populations_fit.ensures
    c.source-source.ensures.accepted.named c.in-Ok.ensures.held

pub returns-in-Ok-clause-first : goal.returns-in-Ok-clause-first
returns-in-Ok-clause-first g c =
    held_is_first c.args.program.now.model c.args.turns c.in-Ok.start c.read_populations_fit.ensures
    c.source-source.ensures.accepted.named c.in-Ok.ensures.held

pub returns-in-Ok-clause-last : goal.returns-in-Ok-clause-last
returns-in-Ok-clause-last g c =
    held_leaves_room c.args.program.now.model c.args.turns c.in-Ok.start c.read_populations_fit.ensures
    c.source-source.ensures.accepted.named c.in-Ok.ensures.held

pub returns-in-Err-clause-gives : goal.returns-in-Err-clause-gives
returns-in-Err-clause-gives g c = λ told held.
    start_stops told c.args.program.now c.args.turns c.args.name.now c.in-Err.fail c.start_ending.result
    (c.in-Err.ensures.gives told held)
    c.start_ending.ensures.ending
