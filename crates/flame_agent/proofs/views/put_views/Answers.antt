-- The view of one board more.
use Rattle.std.proofs.Common.{◌≡◌, ◌<◌, ◌≤◌, ◌∷◌, ◌++◌, [], List, map, length, Some, sym, ap, ◌∙◌, subst, arith}
use Rattle.std.specs.Prelude.{slice_get}
use Rattle.std.proofs.lemmas.List.{length-map}
use Rattle.flame_code.specs.Feeds.{Fed, not_begun}
use Rattle.flame_index.specs.FrozenBoards.{messages_on, shared_messages}
use Rattle.flame_program.proofs.Zips.{mapped-there}
use Rattle.flame_world.specs.Settings.{boards_of}
use Rattle.flame_agent.specs.InputViews.{IsViewFor}
use Rattle.flame_agent.specs.ViewsForAll.{IsForAll}
use Rattle.flame_agent.proofs.ForAll.{shown-there}
use Rattle.flame_agent.proofs.InputReadings.{next-view, all-views}
use Rattle.flame_agent.proofs.views.put_views.Goals as goal

pub push_shared_or_own-requires : goal.push_shared_or_own-requires
push_shared_or_own-requires c = λ view is.
    let source = c.args.program.now in
    let function = c.args.function in
    let boards = boards_of c.args.setting.now in
    let items = c.items-boards.result.now in
    let i = c.loop-i.i in
    let board = c.index-boards-i.result in
    let within : i < length items = omega arith in
    let at : slice_get boards i ≡ Some (shared_messages board) =
    mapped-there shared_messages items boards i board (ap (map shared_messages) c.items-boards.ensures)
    within c.index-boards-i.is in
    let shown = shown-there c.args.shared.now i view (sym c.view.ensures ∙ is) in
    subst (λ n. IsForAll source function n (messages_on c.deref.result.now) view) (sym c.in_ok-number.ensures)
    (subst (λ b. IsForAll source function i (messages_on b) view) (sym c.deref.ensures)
    (c.requires.shared.each i view (shared_messages board) shown at))

pub loop-i-preserved : goal.loop-i-preserved
loop-i-preserved c =
    let source = c.args.program.now in
    let memory = c.args.memory.now in
    let boards = boards_of c.args.setting.now in
    let items = c.items-boards.result.now in
    let i = c.loop-i.i in
    let board = c.index-boards-i.result in
    let next = c.in_ok-push_shared_or_own.ensures in
    let view = next.view in
    let fits = c.requires.fits in
    let within : i < length items = omega arith in
    let at : slice_get boards i ≡ Some (shared_messages board) =
    mapped-there shared_messages items boards i board (ap (map shared_messages) c.items-boards.ensures)
    within c.index-boards-i.is in
    let is : IsViewFor source c.args.function i memory (shared_messages board) view =
    subst (λ n. IsViewFor source c.args.function n memory (shared_messages board) view) c.in_ok-number.ensures
    (subst (λ b. IsViewFor source c.args.function c.in_ok-number.field-0 memory (messages_on b) view) c.deref.ensures
    next.is) in
    let more =
    next-view source c.args.function memory boards fits.place fits.there i (shared_messages board) view
    fits.boards at is in
    next.fed ∙ ap (λ (fed : List Fed). fed ++ not_begun view ∷ []) c.loop-i.invariant ∙ sym more

pub returns : goal.returns
returns c =
    let boards = boards_of c.args.setting.now in
    let fits = c.requires.fits in
    let size : length boards ≡ length c.items-boards.result.now =
    ap length (ap (map shared_messages) (sym c.items-boards.ensures))
    ∙ length-map c.items-boards.result.now shared_messages in
    let past : length boards ≤ c.loop-i.i = omega (arith, size) in
    c.loop-i.invariant
    ∙ all-views c.args.program.now c.args.function c.args.memory.now boards fits.place fits.there c.loop-i.i
    past
