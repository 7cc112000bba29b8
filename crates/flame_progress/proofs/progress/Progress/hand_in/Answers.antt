use Rattle.std.proofs.Common.{◌≡◌, length, ap, ◌∙◌, map, sym, subst, arith}
use Rattle.std.specs.Prelude.{slice_get, slice_set}
use Rattle.flame_events.specs.CoreStates.{Open, Core, status_of, works_of}
use Rattle.flame_pieces.specs.declared.statuses.Status as kept
use Rattle.flame_pieces.specs.declared.statuses.Status.TheVariants as is
use Rattle.flame_pieces.specs.KeptStatuses.{status_of as kept_status}
use Rattle.flame_field.specs.KeptBoards.{board_bag, is_board_frozen}
use Rattle.flame_progress.specs.KeptCores.{core_of}
use Rattle.flame_progress.specs.KeptWorkEvents.{without, OutputsOnce}
use Rattle.flame_progress.proofs.Cores.{at_default, outputs_at, outputs_put, status_at, statuses_put}
use Rattle.flame_field.proofs.Written.{map-kept, on_err}
use Rattle.flame_progress.proofs.progress.Progress.hand_in.Goals as goal

pub hand_over_at-requires-clause-there : goal.hand_over_at-requires-clause-there
hand_over_at-requires-clause-there c =
    let at = status_at c.args.self.now.statuses.items c.args.function c.index_mut.result.now c.requires.known c.index_mut.ensures.value in
    omega (arith, c.requires.there, ap (λ s. length (works_of s)) at)

pub hand_over_at-requires-clause-once : goal.hand_over_at-requires-clause-once
hand_over_at-requires-clause-once c =
    let P : kept.Status → Type 0 = λ s. OutputsOnce s in
    subst P (sym (at_default c.args.self.now.statuses.items c.args.function c.index_mut.result.now is.Waiting c.requires.known c.index_mut.ensures.value))
    c.requires.once

pub returns-in_err-hand_over_at-clause-outputs : goal.returns-in_err-hand_over_at-clause-outputs
returns-in_err-hand_over_at-clause-outputs c = λ other outputs has.
    outputs_put c.args.self.now.statuses.items c.args.function c.index_mut.result.now c.hand_over_at.new.status
    c.requires.known c.index_mut.ensures.value c.in_err-hand_over_at.ensures.outputs other outputs has

pub returns-in_err-hand_over_at-clause-err : goal.returns-in_err-hand_over_at-clause-err
returns-in_err-hand_over_at-clause-err c =
    let self = c.args.self.now in
    let core = core_of self in
    let put = map-kept kept_status self.statuses.items c.args.function c.index_mut.result.now c.hand_over_at.new.status
    c.requires.known c.index_mut.ensures.value c.in_err-hand_over_at.ensures.same_status in
    let bags = c.in_err-hand_over_at.ensures.same_boards in
    let marks = c.in_err-hand_over_at.ensures.frozen in
    let same : (let next : Core = record {
      statuses = map kept_status (slice_set self.statuses.items c.args.function c.hand_over_at.new.status);
      field = record { pools = core.field.pools; born = core.field.born; boards = map board_bag c.hand_over_at.new.boards.items };
      frozen = map is_board_frozen c.hand_over_at.new.boards.items;
    } in next)
    ≡ core =
    λ i. record {
      statuses = put i;
      field = record { pools = core.field.pools; born = core.field.born; boards = bags i };
      frozen = marks i;
    } in
    on_err c.from_residual.result same

pub returns-clause-ok : goal.returns-clause-ok
returns-clause-ok c = λ outputs work rows has there part.
    let self = c.args.self.now in
    let core = core_of self in
    let items = self.statuses.items in
    let f = c.args.function in
    let k = c.args.piece in
    let old = c.index_mut.result.now in
    let at = status_at items f old c.requires.known c.index_mut.ensures.value in
    let less = without outputs c.args.message work in
    let there_here = ap (λ s. slice_get (works_of s) k) at ∙ there in
    let has_here = outputs_at items f old outputs c.requires.known c.index_mut.ensures.value has in
    let is : kept_status c.hand_over_at.new.status ≡ Open (slice_set (works_of (status_of core f)) k less) =
    c.in_ok-hand_over_at.ensures.status outputs work has_here there_here ∙ ap (λ s. Open (slice_set (works_of s) k less)) at in
    let put = statuses_put items f c.hand_over_at.new.status (Open (slice_set (works_of (status_of core f)) k less)) is in
    let bags = c.in_ok-hand_over_at.ensures.boards outputs work rows has_here there_here part in
    let marks = c.in_ok-hand_over_at.ensures.frozen in
    λ i. record {
      statuses = put i;
      field = record { pools = core.field.pools; born = core.field.born; boards = bags i };
      frozen = marks i;
    }

pub returns-clause-outputs : goal.returns-clause-outputs
returns-clause-outputs c = λ other outputs has.
    outputs_put c.args.self.now.statuses.items c.args.function c.index_mut.result.now c.hand_over_at.new.status
    c.requires.known c.index_mut.ensures.value c.in_ok-hand_over_at.ensures.outputs other outputs has
