use Rattle.std.proofs.Common.{◌≡◌, ◌⊎◌, ◌∙◌, inl, inr, ap, arith, length, map, subst, sym, ◌∷◌, ◌<◌, List}
use Rattle.std.specs.Vec.Iter.{into_iter_items}
use Rattle.std.specs.Iterator.Adapters.{zip_first, zip_second}
use Rattle.std.proofs.lemmas.List.{length-map}
use Rattle.std.proofs.lemmas.List.Elements.{All-head, All-rest, All-same}
use Rattle.flame_rows.specs.Bags.{ascending, merge}
use Rattle.flame_spec.specs.Before.{function_count}
use Rattle.flame_world.specs.AgentRuns.{births_of}
use Rattle.flame_world.specs.Fields.{Field as Standing, HasPools, joined}
use Rattle.flame_field.specs.KeptBoards.{board_bag}
use Rattle.flame_field.specs.KeptFields.{field_of}
use Rattle.flame_round.specs.KeptRounds.{round_of}
use Rattle.flame_layers.specs.LayerFields.{rank_of}
use Rattle.flame_lanes.specs.declared.gains.Gain.{Gain}
use Rattle.flame_layerrun.specs.declared.openings.Reading.{Reading}
use Rattle.flame_layerrun.proofs.BroughtGains.{AreBrought, all-brought, enters, more-brought, pools-stay}
use Rattle.flame_layerrun.proofs.bringing.bring_all.Goals as goal

pub bring-requires : goal.bring-requires
bring-requires c =
    enters c.args.round.now.program.now.model c.in-Some.reading.function c.route_of-route.result.now (field_of c.loop-reading.field)
    c.route_of-route.ensures c.loop-reading.invariant.fits

pub returns-in_err-bring-clause-dealt : goal.returns-in_err-bring-clause-dealt
returns-in_err-bring-clause-dealt c choose dealt = c.in_err-bring.ensures.dealt choose (c.loop-reading.invariant.dealt choose dealt)

pub loop-reading-preserved : goal.loop-reading-preserved
loop-reading-preserved c =
    let round = round_of c.args.round.now in
    let model = round.source.model in
    let old = c.loop-reading.invariant in
    let steps = c.in-Some.ensures.steps in
    let reading = c.in-Some.reading in
    let gain = c.in-Some.gain in
    let readings = into_iter_items (zip_first c.next.new.self) in
    let gains = into_iter_items (zip_second c.next.new.self) in
    let numbers = map (λ (one : Reading). one.function) c.args.readings.items in
    let start = field_of c.args.field.now in
    let now = field_of c.loop-reading.field in
    let after = field_of c.bring.new.self in
    let route = c.route_of-route.result.now in
    let ok = c.in_ok-bring.ensures.ok in
    let rank = All-head (λ (one : Reading). one.rank ≡ rank_of model one.function) reading readings
    (All-same (λ (one : Reading). one.rank ≡ rank_of model one.function) (reading ∷ readings) _ (sym steps.0.0) old.ranks) in
    record {
      first = omega (arith, steps.0.1, ap length steps.0.0, old.first);
      second = omega (arith, steps.1.1, ap length steps.1.0, old.second);
      there = All-rest (λ (one : Reading). one.function < function_count model) reading readings _ steps.0.0 old.there;
      ranks = All-rest (λ (one : Reading). one.rank ≡ rank_of model one.function) reading readings _ steps.0.0 old.ranks;
      fits =
          subst (λ (field : Standing). HasPools model field) (sym ok)
          (pools-stay model now (joined (births_of gain.born.items) now.born) route.agent route.to
          (λ pool. merge pool (ascending gain.survivors.items)) old.fits);
      boards = c.in_ok-bring.ensures.boards ∙ old.boards;
      brought = λ read takers gained.
          more-brought round read numbers takers start reading.function reading.rank (map (λ (one : Reading). one.function) readings)
          gain gains route now after c.loop-reading.stop c.first-stop.result
          (subst (λ (list : List Gain). AreBrought round read numbers takers start (reading.function ∷ map (λ (one : Reading). one.function) readings) list now c.loop-reading.stop)
          steps.1.0
          (subst (λ (list : List Reading). AreBrought round read numbers takers start (map (λ (one : Reading). one.function) list)
          (into_iter_items (zip_second c.loop-reading.reading-iterator)) now c.loop-reading.stop)
          steps.0.0 (old.brought read takers gained)))
          c.route_of-route.ensures (ap (λ (field : Standing). field.pools) ok) (ap (λ (field : Standing). field.born) ok) rank c.first-stop.ensures;
      dealt = λ choose dealt. c.in_ok-bring.ensures.dealt choose (old.dealt choose dealt);
    }

pub returns-clause-field : goal.returns-clause-field
returns-clause-field c read takers gained =
    let old = c.loop-reading.invariant in
    let readings = into_iter_items (zip_first c.loop-reading.reading-iterator) in
    let gains = into_iter_items (zip_second c.loop-reading.reading-iterator) in
    let over : (length (map (λ (one : Reading). one.function) readings) ≡ 0) ⊎ (length gains ≡ 0) =
    elim c.in-None.ensures.steps [
      | inl ends ↦ inl (length-map readings (λ (one : Reading). one.function) ∙ sym old.first ∙ ends.1.0)
      | inr ends ↦ inr (sym old.second ∙ ends.1.0)
    ] in
    let all = all-brought (round_of c.args.round.now) read (map (λ (one : Reading). one.function) c.args.readings.items) takers
    (field_of c.args.field.now) (map (λ (one : Reading). one.function) readings) gains (field_of c.loop-reading.field) c.loop-reading.stop over
    (old.brought read takers gained) in
    λ i. record { pools = all.field.pools i; born = all.field.born i; boards = map board_bag (old.boards i).items }

pub returns-clause-stop : goal.returns-clause-stop
returns-clause-stop c read takers gained =
    let old = c.loop-reading.invariant in
    let readings = into_iter_items (zip_first c.loop-reading.reading-iterator) in
    let gains = into_iter_items (zip_second c.loop-reading.reading-iterator) in
    let over : (length (map (λ (one : Reading). one.function) readings) ≡ 0) ⊎ (length gains ≡ 0) =
    elim c.in-None.ensures.steps [
      | inl ends ↦ inl (length-map readings (λ (one : Reading). one.function) ∙ sym old.first ∙ ends.1.0)
      | inr ends ↦ inr (sym old.second ∙ ends.1.0)
    ] in
    (all-brought (round_of c.args.round.now) read (map (λ (one : Reading). one.function) c.args.readings.items) takers
    (field_of c.args.field.now) (map (λ (one : Reading). one.function) readings) gains (field_of c.loop-reading.field) c.loop-reading.stop over
    (old.brought read takers gained)).stops
