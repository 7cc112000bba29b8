use Rattle.std.proofs.Common.{◌≡◌, List, ap, sym, subst, arith, length}
use Rattle.flame_rows.specs.Bags.{ascending}
use Rattle.flame_rows.specs.Order.{row_order}
use Rattle.flame_rows.specs.Sorted.{IsAscending}
use Rattle.flame_rows.proofs.BagLaws.{ascending-IsAscending}
use Rattle.flame_world.specs.declared.pieces.Piece.{Piece}
use Rattle.flame_world.specs.declared.shares.Share.{Share}
use Rattle.flame_world.specs.Meaning.{IsMeaning}
use Rattle.flame_world.specs.Shares.{piece_of, setting_of}
use Rattle.flame_nodes.proofs.LeftShares.{ArePutTogether, all-together, more-together, nobody-left, none-together}
use Rattle.flame_nodes.proofs.lefts.left_by.Goals as goal

pub loop-share-init : goal.loop-share-init
loop-share-init c = λ iteration function run outputs once of_run.
    let none = c.nothing-left.ensures in
    let left = c.nothing-left.result in
    let all = c.args.shares.items in
    subst (λ (rest : List Share). ArePutTogether iteration function run outputs once all rest left)
    (sym c.into_iter-share-iterator.ensures.into_iter_gives.0)
    (none-together iteration function run outputs once all left
    (nobody-left iteration function run outputs left none.survivors none.sent none.born none.fault) of_run)

pub loop-share-preserved : goal.loop-share-preserved
loop-share-preserved c = λ iteration function run outputs once of_run.
    let share = c.in-Some.share in
    let rest = c.split-rest.result.0 in
    let parts = c.into_items.result.items in
    let meant : IsMeaning (setting_of share) (piece_of share) rest parts =
    subst (IsMeaning (setting_of share) (piece_of share) rest) (sym c.into_items.ensures) c.split-rest.ensures.meant in
    let order : ascending (piece_of share).agents ≡ (piece_of share).agents =
    ascending-IsAscending (piece_of share).agents
    (subst (λ (piece : Piece). IsAscending row_order piece.agents) c.piece.ensures c.rows-in_order.ensures.order) in
    let add = c.in_ok-add.ensures in
    more-together iteration function run outputs once c.parts_make_the_whole.ensures.fault c.args.shares.items _ _ share rest parts
    c.loop-share.left c.add.new.self c.in-Some.ensures.steps.0 meant order add.survivors add.sent add.born add.fault
    (c.loop-share.invariant iteration function run outputs once of_run)

pub returns : goal.returns
returns c = λ iteration function run outputs once of_run.
    all-together iteration function run outputs once c.args.shares.items c.loop-share.share-iterator.rest.items c.loop-share.left
    (omega (arith, c.loop-share.share-iterator.rest.ok.0, c.in-None.ensures.steps.0))
    (c.loop-share.invariant iteration function run outputs once of_run)
