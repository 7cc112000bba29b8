use Rattle.std.proofs.Common.{◌≡◌, ◌∙◌, List, true, false, arith, ap, length, map, refl, subst, sym}
use Rattle.std.specs.Prelude.{slice_index_or}
use Rattle.std.specs.List.{All}
use Rattle.flame_world.specs.declared.pieces.Piece.{Piece}
use Rattle.flame_events.specs.CoreStates.{work_of}
use Rattle.flame_pieces.specs.KeptWorks.{work_of as kept_work}
use Rattle.flame_field.specs.declared.boards.Board.{Board}
use Rattle.flame_field.specs.KeptBoards.{board_bag, is_board_frozen}
use Rattle.flame_progress.specs.KeptCores.{core_of}
use Rattle.flame_core.proofs.Running.{fed_frozen, fed_known}
use Rattle.flame_core.proofs.TakenIn.{began, setting_seen}
use Rattle.flame_core.proofs.absorbing.can_absorb.Goals as goal

pub route_of-requires : goal.route_of-requires
route_of-requires c =
    let f = c.piece-piece.result.now.function in
    let core = core_of c.args.progress.now in
    (c.requires f).there (began core f c.piece-piece.result.now.number (kept_work c.in-Some.work.now) (sym c.in-Some.ensures.work))

pub is_setting-requires-clause-known : goal.is_setting-requires-clause-known
is_setting-requires-clause-known c = λ j d less.
    let f = c.piece-piece.result.now.function in
    let progress = c.args.progress.now in
    let waits = began (core_of progress) f c.piece-piece.result.now.number (kept_work c.in-Some.work.now) (sym c.in-Some.ensures.work) in
    let known = fed_known c.args.round.now.program.now.model progress f c.route_of.result.now c.route_of.ensures (c.requires f) waits in
    omega (arith, known j d less, ap length c.deref.ensures.value)

pub is_setting-requires-clause-frozen : goal.is_setting-requires-clause-frozen
is_setting-requires-clause-frozen c =
    let f = c.piece-piece.result.now.function in
    let progress = c.args.progress.now in
    let waits = began (core_of progress) f c.piece-piece.result.now.number (kept_work c.in-Some.work.now) (sym c.in-Some.ensures.work) in
    let P : List Board → Type 0 = λ l. All (λ m. slice_index_or (map is_board_frozen l) m false ≡ true) c.route_of.result.now.inputs in
    subst P (sym c.deref.ensures.value)
    (fed_frozen c.args.round.now.program.now.model progress f c.route_of.result.now c.route_of.ensures (c.requires f) waits)

pub returns-then-is_untouched : goal.returns-then-is_untouched
returns-then-is_untouched c =
    let round = c.args.round.now in
    let core = core_of c.args.progress.now in
    let piece = c.piece-piece.ensures in
    let boards = ap (map board_bag) c.deref.ensures.value in
    let function = ap (λ (p : Piece). p.function) piece in
    let untouched = c.if-is_untouched.ensures.0 refl in (
      λ holds.
          record {
            work = kept_work c.in-Some.work.now;
            there = ap (λ (p : Piece). work_of core p.function p.number) (sym piece) ∙ sym c.in-Some.ensures.work;
            agents = ap (λ (p : Piece). p.agents) (sym piece) ∙ untouched.1;
            new = untouched.0;
            setting = setting_seen round _ _ _ _ _ _ boards function c.setting.ensures (c.is_setting.ensures.0 holds);
          },
      λ can. c.is_setting.ensures.1 (setting_seen round _ _ _ _ _ _ (sym boards) (sym function) (sym c.setting.ensures) can.setting),
    )
