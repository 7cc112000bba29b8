use Rattle.std.proofs.Common.{◌≡◌, ◌∙◌, ◌++◌, ◌+◌, ◌∷◌, ap, arith, drop, get_or, length, map, subst, sym, [], List, append_assoc}
use Rattle.std.proofs.lemmas.List.{drop_all, map-append, drop_more}
use Rattle.flame_rows.specs.Cuts.{cut}
use Rattle.flame_field.specs.KeptFields.{field_of}
use Rattle.flame_round.specs.KeptRounds.{round_of}
use Rattle.flame_world.specs.WorldFits.{FitsField}
use Rattle.flame_lanes.specs.declared.tasks.Task.{Task}
use Rattle.flame_lanes.specs.LaneTasks.{tasks_of}
use Rattle.flame_layerrun.specs.declared.openings.Reading.{Reading}
use Rattle.flame_layerrun.specs.declared.schedules.Ranked.{Ranked}
use Rattle.flame_layerrun.proofs.OpenedFunctions.{HaveBegun, all-begun, more-begun}
use Rattle.flame_layerrun.proofs.openings.open_all.Goals as goal

pub loop-ranked-preserved : goal.loop-ranked-preserved
loop-ranked-preserved g c =
    let round = c.args.round.now in
    let functions = c.args.functions.now in
    let i = c.loop-ranked.ranked-index in
    let none : Ranked = record { rank = 0; function = 0 } in
    let one = get_or functions i none in
    let numbers = map (λ (ranked : Ranked). ranked.function) functions in
    let rest = drop (i + 1) functions in
    let next : drop i functions ≡ one ∷ rest = drop_more functions i none c.loop-ranked-test.true in
    let start = field_of c.args.field.now in
    let now = field_of c.loop-ranked.field in
    let after = field_of c.open.new.field in
    let readings = c.loop-ranked.readings.items in
    let tasks = c.loop-ranked.tasks.items in
    let reading = c.in_ok-takers.reading in
    let takers = c.in_ok-takers.takers.items in
    let place : c.len-place.result ≡ length readings = omega (arith, c.len-place.ensures, c.loop-ranked.readings.ok.0) in
    let old = subst (λ list. HaveBegun round numbers (map (λ (ranked : Ranked). ranked.function) list) start now readings tasks)
    next c.loop-ranked.invariant.begun in
    let fits : FitsField round.program.now.model after =
    subst (λ field. FitsField round.program.now.model field) (sym c.in_ok-takers.ensures.field)
    (c.layers_fit.ensures.left (round_of round) one.function now old.fits) in
    let new = more-begun round numbers (map (λ (ranked : Ranked). ranked.function) rest) one.function start now after readings tasks reading takers
    c.args.workers old c.requires.some c.in_ok-takers.ensures.takers c.in_ok-takers.ensures.function c.in_ok-takers.ensures.boards
    c.in_ok-takers.ensures.fits c.in_ok-takers.ensures.field fits in
    let items : c.push.new.self.items ≡ readings ++ reading ∷ [] = c.in_ok-push.ensures.items in
    let added : c.add_tasks.new.tasks.items ≡ tasks ++ tasks_of (length readings) one.function (cut c.args.workers takers) =
    c.in_ok-add_tasks.ensures ∙ ap (λ p. tasks ++ tasks_of p one.function (cut c.args.workers takers)) place in
    record {
      begun =
          subst (λ (list : List Reading). HaveBegun round numbers (map (λ (ranked : Ranked). ranked.function) rest) start after list c.add_tasks.new.tasks.items)
          (sym items)
          (subst (λ (list : List Task). HaveBegun round numbers (map (λ (ranked : Ranked). ranked.function) rest) start after (readings ++ reading ∷ []) list)
          (sym added) new);
      ranks =
          ap (λ (list : List Reading). map (λ (one : Reading). one.rank) list ++ map (λ (ranked : Ranked). ranked.rank) rest) items
          ∙ ap (λ list. list ++ map (λ (ranked : Ranked). ranked.rank) rest) (map-append (λ (one : Reading). one.rank) readings (reading ∷ []))
          ∙ append_assoc (map (λ (one : Reading). one.rank) readings) (reading.rank ∷ []) (map (λ (ranked : Ranked). ranked.rank) rest)
          ∙ ap (λ rank. map (λ (one : Reading). one.rank) readings ++ rank ∷ map (λ (ranked : Ranked). ranked.rank) rest) c.in_ok-takers.ensures.rank
          ∙ ap (λ list. map (λ (one : Reading). one.rank) readings ++ map (λ (ranked : Ranked). ranked.rank) list) (sym next)
          ∙ c.loop-ranked.invariant.ranks;
      dealt = c.in_ok-takers.ensures.dealt;
    }

pub returns-clause-tasks : goal.returns-clause-tasks
returns-clause-tasks g c place =
    let functions = c.args.functions.now in
    let numbers = map (λ (ranked : Ranked). ranked.function) functions in
    let rest = ap (map (λ (ranked : Ranked). ranked.function)) (drop_all c.loop-ranked.ranked-index functions c.loop-ranked-test.false) in
    all-begun c.args.round.now numbers (field_of c.args.field.now) (field_of c.loop-ranked.field)
    c.loop-ranked.readings.items c.loop-ranked.tasks.items
    (subst (λ list. HaveBegun c.args.round.now numbers list (field_of c.args.field.now)
    (field_of c.loop-ranked.field) c.loop-ranked.readings.items c.loop-ranked.tasks.items) rest c.loop-ranked.invariant.begun)
    place
