-- A piece whose next agent runs.
use Rattle.std.proofs.Common.{◌≡◌, ℕ, ◌<◌, true, false, List, length, map, Some, Vec, ap, ◌∙◌, subst, arith}
use Rattle.std.specs.Global.{Global}
use Rattle.std.specs.Prelude.{ℤ, slice_get, slice_index_or}
use Rattle.std.specs.List.{All}
use Rattle.std.proofs.lemmas.List.{length-map}
use Rattle.flame_spec.specs.declared.models.Model.{Model}
use Rattle.flame_spec.specs.Before.{function_count}
use Rattle.flame_spec.specs.Columns.{width}
use Rattle.flame_spec.specs.Functions.{Place, functions}
use Rattle.flame_events.specs.CoreFits.{FitsCore, FitsWork}
use Rattle.flame_events.specs.CoreStates.{Core, is_waiting, status_of, work_of, works_of, is_frozen}
use Rattle.flame_events.specs.LegalEvents.{inputs_at, inputs_of, may_run}
use Rattle.flame_events.proofs.Sound.{opens_with}
use Rattle.flame_pieces.specs.KeptStatuses.{status_of as kept_status}
use Rattle.flame_field.specs.declared.boards.Board.{Board}
use Rattle.flame_progress.specs.declared.counts.Counts.{Counts}
use Rattle.flame_progress.specs.declared.progress.Progress.{Progress}
use Rattle.flame_field.specs.KeptBoards.{board_bag, is_board_frozen}
use Rattle.flame_progress.specs.KeptCores.{core_of}
use Rattle.flame_progress.specs.Tallying.{Tallies}
use Rattle.flame_progress.proofs.Known.{open_within}
use Rattle.flame_route.specs.declared.routes.Route.{Route}
use Rattle.flame_core.specs.NextAgents.{IsNext}
use Rattle.flame_core.specs.KeptShares.{IsFed}
use Rattle.flame_round.specs.KeptRounds.{GoesBy}
use Rattle.flame_core.proofs.Nexts.{each_passes, has_next}
use Rattle.flame_core.proofs.Openings.{all_found}
use Rattle.flame_core.proofs.Shown.{marked_within}
use Rattle.flame_meaning.proofs.Eachs.{each_at}

-- boards that are shared are the boards that they were
pub same_core : (progress : Progress) (boards : Vec Board Global)
    → map board_bag boards.items ≡ map board_bag progress.field.boards.items
    → map is_board_frozen boards.items ≡ map is_board_frozen progress.field.boards.items
    → core_of (record progress { field = record progress.field { boards = boards } }) ≡ core_of progress
same_core progress boards bags marks =
    let core = core_of progress in
    λ i. record {
      statuses = core.statuses;
      field = record { pools = core.field.pools; born = core.field.born; boards = bags i };
      frozen = marks i;
    }

-- the next agent is as wide as its type declares
pub next_wide : (model : Model) (core : Core) (f k : ℕ) (place : Place) (memory : List ℤ) → FitsCore model core
    → slice_get (functions model) f ≡ Some place → IsNext core f k memory → length memory ≡ width place.type.memory
next_wide model core f k place memory fits at next =
    let work = each_at (FitsWork model f place.type) (works_of (status_of core f)) k next.work (fits.works f place at) next.there in
    each_at (λ (row : List ℤ). length row ≡ width place.type.memory) next.work.agents next.work.ran memory work.agents next.next

-- a function that may run is one of the model's
pub running_below : (model : Model) (progress : Progress) (counts : Counts) (f k : ℕ) → Tallies model progress counts
    → may_run (work_of (core_of progress) f k) ≡ true → f < function_count model
running_below model progress counts f k tallies may =
    let core = core_of progress in
    let next = has_next core f k may in
    let is = opens_with (status_of core f) k next.is.work next.is.there in
    omega (arith, open_within core.statuses f (works_of (status_of core f)) is, length-map progress.statuses.items kept_status, tallies.functions)

-- the messages that it reads, by its route
pub inputs_are : (model : Model) (f : ℕ) (route : Route) (goes : GoesBy model f route) → inputs_of model f ≡ route.inputs
inputs_are model f route goes =
    ap (λ o. inputs_at o model) goes.there ∙ all_found _ goes.place.function.inputs route.inputs goes.routed.inputs

-- their boards are frozen where it began
pub fed_frozen : (model : Model) (progress : Progress) (f : ℕ) (route : Route) (goes : GoesBy model f route) → IsFed model progress f
    → is_waiting (status_of (core_of progress) f) ≡ false → All (λ m. is_frozen (core_of progress) m ≡ true) route.inputs
fed_frozen model progress f route goes fed began =
    let core = core_of progress in
    subst (All (λ m. is_frozen core m ≡ true)) (inputs_are model f route goes)
    (each_passes (is_frozen core) (inputs_of model f) (fed.fed began))

pub fed_known : (model : Model) (progress : Progress) (f : ℕ) (route : Route) (goes : GoesBy model f route) → IsFed model progress f
    → is_waiting (status_of (core_of progress) f) ≡ false → All (λ m. m < length progress.field.boards.items) route.inputs
fed_known model progress f route goes fed began = λ j d less.
    let core = core_of progress in
    let frozen = fed_frozen model progress f route goes fed began in
    omega (arith, marked_within core.frozen (slice_index_or route.inputs j d) (frozen j d less), length-map progress.field.boards.items is_board_frozen)
