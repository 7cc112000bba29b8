-- Messages of a piece join their board.
use Rattle.std.proofs.Common.{◌≡◌, ◌<◌, false, length, refl, sym, ap, ◌∙◌, arith, length-set}
use Rattle.std.specs.Prelude.{slice_set}
use Rattle.std.proofs.lemmas.List.{length-map}
use Rattle.flame_rows.specs.Bags.{merge}
use Rattle.flame_world.specs.Fields.{changed}
use Rattle.flame_world.specs.Iterations.{Round}
use Rattle.flame_events.specs.CoreStates.{Status, Open, Core, is_shut, status_of, work_of, works_of}
use Rattle.flame_events.specs.EventSteps.{handed_in, joined_board}
use Rattle.flame_events.specs.LegalEvents.{outputs_of}
use Rattle.flame_events.proofs.Sound.{opens_with}
use Rattle.flame_pieces.specs.KeptStatuses.{status_of as kept_status}
use Rattle.flame_progress.specs.KeptCores.{core_of}
use Rattle.flame_progress.specs.KeptWorkEvents.{without}
use Rattle.flame_progress.proofs.Known.{may_hand_in_is}
use Rattle.flame_progress.specs.declared.counts.Counts.{Counts}
use Rattle.flame_progress.specs.Tallying.{Came, Tallies}
use Rattle.flame_field.proofs.Written.{on_err}
use Rattle.flame_progress.proofs.Tallied.{came, counted_kept, status_kept}
use Rattle.flame_progress.proofs.events.hand_in.Goals as goal

pub returns-in_err-hand_in-clause-err : goal.returns-in_err-hand_in-clause-err
returns-in_err-hand_in-clause-err c =
    let old = c.args.progress.now in
    let kept : (round : Round) (counts : Counts) → Tallies round.source.model old counts → Came round.source.model (core_of old) c.hand_in.new.self counts =
    λ round counts tallies.
    came round.source.model old c.hand_in.new.self counts counts (core_of old) c.in_err-hand_in.ensures.err refl refl
    (λ g has. c.in_err-hand_in.ensures.outputs g (outputs_of round.source.model g) has) tallies tallies.counted in
    on_err c.from_residual.result kept

pub returns-clause-ok : goal.returns-clause-ok
returns-clause-ok c = λ round pieces counts tallies legal.
    let model = round.source.model in
    let core = core_of c.args.progress.now in
    let f = c.args.function in
    let k = c.args.piece in
    let m = c.args.message in
    let outputs = outputs_of model f in
    let may = may_hand_in_is outputs (work_of core f k) m legal in
    let v : Status = Open (slice_set (works_of (status_of core f)) k (without outputs m may.one)) in
    let less : f < length core.statuses = omega (arith, c.requires.known, length-map c.args.progress.now.statuses.items kept_status) in
    let next : Core = record core {
      statuses = slice_set core.statuses f v;
      field = record core.field { boards = changed m (λ board. merge board may.rows) core.field.boards };
    } in
    let after_is : next ≡ handed_in f k m outputs (work_of core f k) core =
    sym (ap (λ o. handed_in f k m outputs o core) may.there ∙ ap (λ p. joined_board f k m outputs may.one p core) may.part) in
    let was : is_shut (status_of core f) ≡ false = ap is_shut (opens_with (status_of core f) k may.one may.there) in
    let made = came model c.args.progress.now c.hand_in.new.self counts counts next
    (c.in_ok-hand_in.ensures.ok outputs may.one may.rows (tallies.outputs f) may.there may.part)
    (length-set core.statuses f v) refl
    (λ g has. c.in_ok-hand_in.ensures.outputs g (outputs_of model g) has) tallies
    (counted_kept model core next counts (status_kept is_shut core.statuses f v less (sym was)) refl tallies.counted) in
    record { core = made.core ∙ after_is; tallies = made.tallies }
