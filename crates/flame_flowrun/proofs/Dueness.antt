-- What a flow gives to run is due.
use Rattle.std.proofs.Common.{◌≡◌, ℕ, Some, refl, sym, ap, ◌∙◌, arith}
use Rattle.std.specs.Prelude.{slice_get}
use Rattle.flame_rows.proofs.Lists.{slice_get-some}
use Rattle.flame_spec.specs.Functions.{functions}
use Rattle.flame_world.specs.InputBoards.{boards_named}
use Rattle.flame_events.specs.CoreStates.{work_of}
use Rattle.flame_events.proofs.CoreWidths.{status_below, fitting_cores_open}
use Rattle.flame_events.proofs.Growing.{histories_fit}
use Rattle.flame_core.specs.SeenCores.{round_in, start_in}
use Rattle.flame_flow.specs.declared.jobs.Job.{Job}
use Rattle.flame_flow.specs.FlowCalls.{IsJobOf, IsKept}
use Rattle.flame_flow.specs.SeenFlows.{SeenFlow, start_of}
use Rattle.flame_flowrun.specs.DueJobs.{IsDueJob}

pub job_due : (flow : SeenFlow) (f k : ℕ) (job : Job) → IsKept flow → IsJobOf flow.seen f k job → IsDueJob (start_of flow.seen) job
job_due flow f k job kept is =
    let seen = flow.seen in
    let model = seen.source.model in
    let function = is.is.function_is in
    let there : work_of seen.core job.piece.function job.piece.number ≡ Some is.is.work =
    (λ i. work_of seen.core (function i) (is.is.number_is i)) ∙ is.is.there in
    let fits = histories_fit (round_in seen) seen.pieces (start_in seen) seen.core flow.history (fitting_cores_open model seen.world kept.told.fits) kept.told.leads in
    let place = slice_get-some (functions model) job.piece.function
    (omega (arith, status_below seen.core job.piece.function job.piece.number is.is.work there, fits.statuses)) in
    let at = ap (slice_get (functions model)) (sym function) ∙ place.1 in
    record {
      due = record {
        seen = seen;
        started = refl;
        reached = record { fits = kept.told.fits; some = kept.told.some; events = flow.history; leads = kept.told.leads };
        is = record { work = is.is.work; there = there; function_is = refl; number_is = refl; agents = is.is.agents };
        read = is.read ∙ ap (λ g. boards_named (slice_get (functions model) g) model seen.core.field.boards) (sym function);
      };
      fits = record {
        place = place.0;
        there = place.1;
        memories = is.memories place.0 at;
        known = kept.told.fits.constants;
        wide = is.messages place.0 at;
      };
    }
