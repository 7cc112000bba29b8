-- The filters and keys of one function more.
use Rattle.std.proofs.Common.{◌+◌, take, sym, subst}
use Rattle.std.specs.List.{AllZip}
use Rattle.flame_spec.specs.Functions.{functions}
use Rattle.flame_lookup.specs.WordsFound.{place_found}
use Rattle.flame_program.specs.Readable.{AreReadableInputs}
use Rattle.flame_program.specs.SourceInputs.{IsSelectorOf, AreSelectorsOf}
use Rattle.flame_program.proofs.Zips.{mapped-there}
use Rattle.flame_route.proofs.Places.{zip-taken}
use Rattle.flame_program.proofs.reading.selectors_of.Goals as goal

pub selectors_in-requires-clause-readable : goal.selectors_in-requires-clause-readable
selectors_in-requires-clause-readable c =
    let place = c.place-item.result in
    let model = c.args.model.now in
    let i = c.loop-place.place-index in
    let at = mapped-there place_found c.args.places.now (functions model) i place c.requires.places c.loop-place-test.true c.place-item.is in
    subst (AreReadableInputs model place.agent.now) (sym c.items-inputs.ensures)
    (c.requires.readable i (place_found place) at).inputs

pub loop-place-preserved : goal.loop-place-preserved
loop-place-preserved c =
    let place = c.place-item.result in
    let model = c.args.model.now in
    let i = c.loop-place.place-index in
    let at = mapped-there place_found c.args.places.now (functions model) i place c.requires.places c.loop-place-test.true c.place-item.is in
    let own : AllZip (IsSelectorOf model place.agent.now) place.function.now.inputs c.in_ok-selectors_in.field-0.items =
    subst (λ inputs. AllZip (IsSelectorOf model place.agent.now) inputs c.in_ok-selectors_in.field-0.items)
    c.items-inputs.ensures c.in_ok-selectors_in.ensures in
    let one : AreSelectorsOf model (place_found place) c.of.result =
    subst (AreSelectorsOf model (place_found place)) (sym c.of.ensures) own in
    subst (AllZip (AreSelectorsOf model) (take (i + 1) (functions model))) (sym c.in_ok-push.ensures.items)
    (zip-taken (AreSelectorsOf model) (functions model) i c.loop-place.selectors.items (place_found place) c.of.result at
    c.loop-place.invariant one)
