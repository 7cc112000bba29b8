-- One view more that all agents share, or none.
use Rattle.std.proofs.Common.{◌≡◌, ◌<◌, map, length, Some, sym, ap, ◌∙◌, subst, arith}
use Rattle.std.specs.Prelude.{slice_get}
use Rattle.std.proofs.lemmas.List.{length_push}
use Rattle.flame_index.specs.FrozenBoards.{messages_on, shared_messages}
use Rattle.flame_program.proofs.Zips.{mapped-there}
use Rattle.flame_agent.specs.ViewsForAll.{AreForAll, IsForAll}
use Rattle.flame_agent.proofs.ForAll.{for-all-none, for-all-push}
use Rattle.flame_agent.proofs.shared.SharedViews.of.Goals as goal

pub loop-i-init : goal.loop-i-init
loop-i-init c =
    let none = c.new-views.ensures.items in
    record {
      count = ap length none;
      each =
          subst (AreForAll c.args.program.now c.args.function (map shared_messages c.args.boards.now)) (sym none)
          (for-all-none c.args.program.now c.args.function (map shared_messages c.args.boards.now));
    }

pub loop-i-preserved : goal.loop-i-preserved
loop-i-preserved c =
    let source = c.args.program.now in
    let function = c.args.function in
    let boards = map shared_messages c.args.boards.now in
    let items = c.items-boards.result.now in
    let i = c.loop-i.i in
    let views = c.loop-i.views.items in
    let board = c.index-boards-i.result in
    let old = c.loop-i.invariant in
    let within : i < length items = omega arith in
    let at : slice_get boards i ≡ Some (shared_messages board) =
    mapped-there shared_messages items boards i board (ap (map shared_messages) c.items-boards.ensures)
    within c.index-boards-i.is in
    record {
      count = omega (arith, ap length c.in_ok-push.ensures.items, length_push views c.in_ok-view.view, old.count);
      each =
          subst (AreForAll source function boards) (sym c.in_ok-push.ensures.items)
          (for-all-push source function boards views c.in_ok-view.view (shared_messages board) old.each
          (ap (slice_get boards) old.count ∙ at)
          (λ view is.
          subst (λ n. IsForAll source function n (shared_messages board) view) (c.in_ok-number.ensures ∙ sym old.count)
          (subst (λ b. IsForAll source function c.in_ok-number.field-0 (messages_on b) view) c.deref.ensures
          (c.in_ok-view.ensures view is))));
    }

pub returns : goal.returns
returns c = c.loop-i.invariant.each
