-- The filter and the key of one input more.
use Rattle.std.proofs.Common.{◌+◌, length, take, sym, subst, refl}
use Rattle.std.specs.List.{AllZip}
use Rattle.std.proofs.lemmas.Option.{slice_get_read}
use Rattle.flame_program.specs.SourceInputs.{IsSelectorOf}
use Rattle.flame_route.proofs.Places.{zip-taken}
use Rattle.flame_program.proofs.reading.selectors_in.Goals as goal

pub selector_of-requires-clause-readable : goal.selector_of-requires-clause-readable
selector_of-requires-clause-readable c =
    let inputs = c.args.inputs.now in
    let i = c.loop-input.input-index in
    c.requires.readable i c.input-item.result
    (slice_get_read inputs (length inputs) i c.input-item.result refl c.loop-input-test.true c.input-item.is)

pub loop-input-preserved : goal.loop-input-preserved
loop-input-preserved c =
    let inputs = c.args.inputs.now in
    let i = c.loop-input.input-index in
    let P = IsSelectorOf c.args.model.now c.args.agent.now in
    let at = slice_get_read inputs (length inputs) i c.input-item.result refl c.loop-input-test.true c.input-item.is in
    subst (AllZip P (take (i + 1) inputs)) (sym c.in_ok-push.ensures.items)
    (zip-taken P inputs i c.loop-input.selectors.items c.input-item.result c.in_ok-selector_of.field-0 at
    c.loop-input.invariant c.in_ok-selector_of.ensures)
