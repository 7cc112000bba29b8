use Rattle.std.proofs.Common.{◌≡◌, ◌∙◌, ap, arith, length, refl, subst, sym, None, Some}
use Rattle.std.specs.Prelude.{slice_get}
use Rattle.std.proofs.lemmas.Option.{slice_get_read}
use Rattle.std.proofs.lemmas.Slice.Zip.{AllZip-long}
use Rattle.flame_world.specs.Fields.{Field}
use Rattle.flame_layers.specs.LayerStates.{HasComeTo}
use Rattle.flame_field.specs.KeptFields.{field_of}
use Rattle.flame_round.specs.KeptRounds.{round_of}
use Rattle.flame_layerrun.specs.Schedules.{ranked_in}
use Rattle.flame_layerrun.proofs.LayerSteps.{in_world, next_layer}
use Rattle.flame_layerrun.proofs.RankedLayers.{all_known, all_ranked}
use Rattle.flame_layerrun.proofs.iterations.run_all.Goals as goal

pub run_layer-requires-clause-there : goal.run_layer-requires-clause-there
run_layer-requires-clause-there g c κs within =
    let model = c.args.round.now.program.now.model in
    let items = c.deref-own-items.result.now in
    let place = c.loop-own.own-index in
    let there : slice_get c.in_ok-layers.layers.items place ≡ Some c.own-item.result =
    ap (λ list. slice_get list place) (sym c.deref-own-items.ensures.value)
    ∙ slice_get_read items (length items) place c.own-item.result refl c.loop-own-test.true c.own-item.is in
    let are : c.as_slice.result.now ≡ ranked_in model place =
    c.as_slice.ensures.value ∙ c.in_ok-layers.ensures.own place c.own-item.result there in
    all_known model c.orders.ensures.functions place (length c.still-functions.result.now) c.as_slice.result.now c.still-functions.result.now are
    c.still-functions.ensures.front

pub run_layer-requires-clause-ranks : goal.run_layer-requires-clause-ranks
run_layer-requires-clause-ranks g c κs within =
    let model = c.args.round.now.program.now.model in
    let items = c.deref-own-items.result.now in
    let place = c.loop-own.own-index in
    let there : slice_get c.in_ok-layers.layers.items place ≡ Some c.own-item.result =
    ap (λ list. slice_get list place) (sym c.deref-own-items.ensures.value)
    ∙ slice_get_read items (length items) place c.own-item.result refl c.loop-own-test.true c.own-item.is in
    let are : c.as_slice.result.now ≡ ranked_in model place =
    c.as_slice.ensures.value ∙ c.in_ok-layers.ensures.own place c.own-item.result there in
    all_ranked model c.ranks.ensures.place place (length c.still-functions.result.now) c.as_slice.result.now c.still-functions.result.now are
    c.still-functions.ensures.front

pub run_layer-requires-clause-fits : goal.run_layer-requires-clause-fits
run_layer-requires-clause-fits g c κs within =
    let round = c.args.round.now in
    let source = round.program.now in
    let begun = c.requires.begun in
    let world = begun.world in
    let count = sym ((sym (AllZip-long _ source.model.agents world.agents begun.fits.agents))) in
    let field = field_of c.loop-own.field in
    c.layers_fit.ensures.found source world round.iteration round.fuel c.loop-own.own-index c.loop-own.stop field begun.fits
    (in_world source round.constants.now round.iteration round.fuel world world.agents c.loop-own.own-index c.loop-own.stop field begun.constants
    (c.loop-own.invariant.come world.agents count begun.field_is))

pub loop-own-init : goal.loop-own-init
loop-own-init g c = record {
  come = λ agents count opens.
      let round = round_of c.args.round.now in
      subst (λ (field : Field). HasComeTo round agents 0 None field) (sym opens)
      (c.layers_lead.ensures.begin round agents c.source-source.ensures.accepted count);
  dealt = c.requires.dealt;
}

pub loop-own-preserved : goal.loop-own-preserved
loop-own-preserved g c =
    let round = round_of c.args.round.now in
    let model = round.source.model in
    let items = c.deref-own-items.result.now in
    let place = c.loop-own.own-index in
    let there : slice_get c.in_ok-layers.layers.items place ≡ Some c.own-item.result =
    ap (λ list. slice_get list place) (sym c.deref-own-items.ensures.value)
    ∙ slice_get_read items (length items) place c.own-item.result refl c.loop-own-test.true c.own-item.is in
    let are : c.as_slice.result.now ≡ ranked_in model place =
    c.as_slice.ensures.value ∙ c.in_ok-layers.ensures.own place c.own-item.result there in
    record {
      come = λ agents count opens.
          next_layer c.layers_lead.ensures.on round agents place c.loop-own.stop c.in_ok-found.found c.or-stop.result (field_of c.loop-own.field)
          (field_of c.run_layer.new.field) _ c.source-source.ensures.accepted count (c.loop-own.invariant.come agents count opens)
          (c.still-functions.ensures.functions model place are) c.in_ok-found.ensures.field c.in_ok-found.ensures.stop c.or-stop.ensures;
      dealt = c.in_ok-found.ensures.dealt;
    }

pub returns : goal.returns
returns g c world fits same opens =
    let round = c.args.round.now in
    let source = round.program.now in
    let count = sym ((sym (AllZip-long _ source.model.agents world.agents fits.agents))) in
    let field = field_of c.loop-own.field in
    c.layers_lead.ensures.end source world round.iteration round.fuel c.loop-own.own-index c.loop-own.stop field c.source-source.ensures.accepted count
    (λ function less. omega (arith, c.loop-own-test.false, c.in_ok-layers.ensures.all function less, ap length c.deref-own-items.ensures.value))
    (in_world source round.constants.now round.iteration round.fuel world world.agents c.loop-own.own-index c.loop-own.stop field same
    (c.loop-own.invariant.come world.agents count opens))
