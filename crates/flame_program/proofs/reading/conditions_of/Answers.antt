-- One condition more.
use Rattle.std.proofs.Common.{◌+◌, Option, take, sym, subst}
use Rattle.std.specs.List.{AllZip}
use Rattle.flame_spec.specs.Functions.{Place, functions}
use Rattle.flame_cond.specs.declared.forms.Test.{Test}
use Rattle.flame_cond.specs.Said.{IsConditionOf}
use Rattle.flame_lookup.specs.WordsFound.{place_found}
use Rattle.flame_program.proofs.Zips.{mapped-there}
use Rattle.flame_route.proofs.Places.{zip-taken}
use Rattle.flame_program.proofs.reading.conditions_of.Goals as goal

pub condition_of-requires : goal.condition_of-requires
condition_of-requires c =
    let place = c.place-item.result in
    let at =
    mapped-there place_found c.args.places.now (functions c.args.model.now) c.loop-place.place-index place
    c.requires.places c.loop-place-test.true c.place-item.is in
    (c.requires.readable c.loop-place.place-index (place_found place) at).condition

pub loop-place-preserved : goal.loop-place-preserved
loop-place-preserved c =
    let place = c.place-item.result in
    let model = c.args.model.now in
    let i = c.loop-place.place-index in
    let P : Place → Option Test → Type 0 =
    λ place read. IsConditionOf read place.function.condition place.type model.units in
    let at = mapped-there place_found c.args.places.now (functions model) i place c.requires.places c.loop-place-test.true c.place-item.is in
    subst (AllZip P (take (i + 1) (functions model))) (sym c.in_ok-push.ensures.items)
    (zip-taken P (functions model) i c.loop-place.conditions.items (place_found place) c.in_ok-condition.condition at
    c.loop-place.invariant c.in_ok-condition.ensures)
