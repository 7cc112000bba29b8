-- What agents left is put where it belongs, or nothing changes.
use Rattle.std.proofs.Common.{◌≡◌, ◌<◌, ℕ, zero, suc, List, [], ◌∷◌, Vec, Global, Some, ap, sym, ◌∙◌, length, map, arith, length-set, get_or-set_same}
use Rattle.std.specs.Prelude.{slice_get, slice_set}
use Rattle.flame_events.specs.CoreStates.{Work, Open, Core, status_of, works_of}
use Rattle.flame_pieces.specs.KeptStatuses.{status_of as kept_status}
use Rattle.flame_field.specs.declared.boards.Board.{Board}
use Rattle.flame_field.specs.KeptBoards.{is_board_frozen}
use Rattle.flame_field.specs.KeptFields.{field_of}
use Rattle.flame_field.proofs.Written.{map-kept, on_err}
use Rattle.flame_progress.specs.KeptCores.{core_of}
use Rattle.flame_progress.specs.KeptWorkEvents.{added}
use Rattle.flame_progress.proofs.Cores.{outputs_put, status_at, statuses_put}
use Rattle.flame_progress.proofs.Known.{are_left_is}
use Rattle.flame_progress.proofs.progress.Progress.settle.Goals as goal

there_is : (works : List Work) (piece : ℕ) (work : Work) → slice_get works piece ≡ Some work → piece < length works
there_is [] piece work at = absurd cc
there_is (first ∷ works) zero work at = omega arith
there_is (first ∷ works) (suc piece) work at = omega (arith, there_is works piece work at)

pub returns-in_err-make_room-clause-outputs : goal.returns-in_err-make_room-clause-outputs
returns-in_err-make_room-clause-outputs c = λ other outputs has.
    outputs_put c.args.self.now.statuses.items c.args.function c.index_mut.result.now c.make_room.new.self
    c.requires.known c.index_mut.ensures.value c.in_err-make_room.ensures.outputs other outputs has

pub returns-in_err-make_room-clause-err : goal.returns-in_err-make_room-clause-err
returns-in_err-make_room-clause-err c =
    let self = c.args.self.now in
    let core = core_of self in
    let put = map-kept kept_status self.statuses.items c.args.function c.index_mut.result.now c.make_room.new.self
    c.requires.known c.index_mut.ensures.value c.in_err-make_room.ensures.same in
    let same : (let next : Core = record {
      statuses = map kept_status (slice_set self.statuses.items c.args.function c.make_room.new.self);
      field = core.field;
      frozen = core.frozen;
    } in next)
    ≡ core =
    λ i. record { statuses = put i; field = core.field; frozen = core.frozen } in
    on_err c.from_residual.result same

pub returns-in_err-bring-clause-outputs : goal.returns-in_err-bring-clause-outputs
returns-in_err-bring-clause-outputs c = λ other outputs has.
    outputs_put c.args.self.now.statuses.items c.args.function c.index_mut.result.now c.make_room.new.self
    c.requires.known c.index_mut.ensures.value c.in_ok-make_room.ensures.outputs other outputs has

pub returns-in_err-bring-clause-err : goal.returns-in_err-bring-clause-err
returns-in_err-bring-clause-err c =
    let self = c.args.self.now in
    let core = core_of self in
    let put = map-kept kept_status self.statuses.items c.args.function c.index_mut.result.now c.make_room.new.self
    c.requires.known c.index_mut.ensures.value c.in_ok-make_room.ensures.same in
    let fields = c.in_err-bring.ensures.err in
    let marks = ap (λ (boards : Vec Board Global). map is_board_frozen boards.items) c.in_err-bring.ensures.boards in
    let same : (let next : Core = record {
      statuses = map kept_status (slice_set self.statuses.items c.args.function c.make_room.new.self);
      field = field_of c.bring.new.self;
      frozen = map is_board_frozen c.bring.new.self.boards.items;
    } in next)
    ≡ core =
    λ i. record { statuses = put i; field = fields i; frozen = marks i } in
    on_err c.from_residual-in_err-bring.result same

pub add-requires-clause-there : goal.add-requires-clause-there
add-requires-clause-there c =
    let items = c.args.self.now.statuses.items in
    let core = core_of c.args.self.now in
    let f = c.args.function in
    let again = c.index_mut-2.result.now in
    let same = c.index_mut-2.ensures.value ∙ get_or-set_same items f c.make_room.new.self again c.requires.known in
    let st : kept_status again ≡ status_of core f = ap kept_status same
    ∙ c.in_ok-make_room.ensures.same
    ∙ status_at items f c.index_mut.result.now c.requires.known c.index_mut.ensures.value in
    let runs = are_left_is c.args.left.ran (works_of (status_of core f)) c.args.piece c.requires.left in
    let there = there_is (works_of (status_of core f)) c.args.piece runs.work runs.there in
    omega (arith, there, ap (λ s. length (works_of s)) st)

pub returns-clause-ok : goal.returns-clause-ok
returns-clause-ok c = λ work there.
    let self = c.args.self.now in
    let core = core_of self in
    let items = self.statuses.items in
    let f = c.args.function in
    let k = c.args.piece in
    let mid = c.make_room.new.self in
    let again = c.index_mut-2.result.now in
    let more = added c.args.left work in
    let same = c.index_mut-2.ensures.value ∙ get_or-set_same items f mid again c.requires.known in
    let st : kept_status again ≡ status_of core f = ap kept_status same
    ∙ c.in_ok-make_room.ensures.same
    ∙ status_at items f c.index_mut.result.now c.requires.known c.index_mut.ensures.value in
    let is : kept_status c.add.new.self ≡ Open (slice_set (works_of (status_of core f)) k more) =
    c.add.ensures.status work (ap (λ s. slice_get (works_of s) k) st ∙ there) ∙ ap (λ s. Open (slice_set (works_of s) k more)) st in
    let kept = map-kept kept_status items f c.index_mut.result.now mid c.requires.known c.index_mut.ensures.value c.in_ok-make_room.ensures.same in
    let v = Open (slice_set (works_of (status_of core f)) k more) in
    let put = statuses_put (slice_set items f mid) f c.add.new.self v is ∙ ap (λ l. slice_set l f v) kept in
    let fields = c.in_ok-bring.ensures.ok in
    let marks = ap (λ (boards : Vec Board Global). map is_board_frozen boards.items) c.in_ok-bring.ensures.boards in
    λ i. record { statuses = put i; field = fields i; frozen = marks i }

pub returns-clause-outputs : goal.returns-clause-outputs
returns-clause-outputs c = λ other outputs has.
    let items = c.args.self.now.statuses.items in
    let f = c.args.function in
    let mid = c.make_room.new.self in
    let within : f < length (slice_set items f mid) = omega (arith, c.requires.known, length-set items f mid) in
    outputs_put (slice_set items f mid) f c.index_mut-2.result.now c.add.new.self within c.index_mut-2.ensures.value c.add.ensures.outputs
    other outputs
    (outputs_put items f c.index_mut.result.now mid c.requires.known c.index_mut.ensures.value c.in_ok-make_room.ensures.outputs other outputs has)
