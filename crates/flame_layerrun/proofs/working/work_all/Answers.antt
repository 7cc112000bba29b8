use Rattle.std.proofs.Common.{◌≡◌, ◌∙◌, List, ap, length, map, subst, sym}
use Rattle.std.specs.Prelude.{IfOk, Ok, Result, slice_index_or}
use Rattle.std.proofs.lemmas.List.{length-map}
use Rattle.flame_rows.specs.declared.fails.NoMemory.{NoMemory}
use Rattle.flame_world.specs.Fields.{Field}
use Rattle.flame_round.specs.KeptRounds.{round_of}
use Rattle.flame_lanes.specs.declared.jobs.Done.{Done}
use Rattle.flame_layerrun.specs.LayerTasks.{AreRead}
use Rattle.flame_layerrun.specs.LayerWork.{IsDone}
use Rattle.flame_layerrun.proofs.DoneJobs.{all-done}
use Rattle.flame_layerrun.proofs.working.work_all.Goals as goal

pub returns : goal.returns
returns g c =
    let floor = c.args.floor.now in
    let jobs = c.args.jobs.items in
    let dones = c.in_ok-dones.dones.items in
    let same : map Ok dones ≡ c.in_ok-results.results.items = c.in_ok-dones.ensures in
    all-done floor.round floor.readings.now floor.messages.now jobs dones
    (sym (length-map dones Ok) ∙ ap length same ∙ c.in_ok-results.ensures.count)
    (λ place other job less.
    subst (λ (rs : List (Result Done NoMemory)). IfOk (slice_index_or rs place other) (λ done. (read : Field) → AreRead floor.round read floor.readings.now
    → IsDone (round_of floor.round) read floor.messages.now (slice_index_or jobs place job) done)) (sym same)
    (c.in_ok-results.ensures.each place other job less))
