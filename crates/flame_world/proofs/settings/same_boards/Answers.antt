use Rattle.std.proofs.Common.{◌≡◌, ◌<◌, length, arith, refl}
use Rattle.std.proofs.lemmas.Bool.{false≢true}
use Rattle.flame_index.specs.FrozenBoards.{shared_messages}
use Rattle.flame_world.proofs.Sames.{seen_alike, alike_more}
use Rattle.flame_world.proofs.settings.same_boards.Goals as goal

pub returns-then-not-same_board : goal.returns-then-not-same_board
returns-then-not-same_board c =
    let ones = c.args.ones.now in
    let twos = c.args.twos.now in
    let within : c.loop-i.i < length ones = omega arith in
    let long : length ones ≡ length twos = omega arith in (
      λ no. absurd (false≢true no),
      λ same.
          c.if-not-same_board.ensures.1
          (seen_alike shared_messages ones twos c.loop-i.i _ _ within long c.index-ones-i.is c.index-twos-i.is same),
    )

pub loop-i-preserved : goal.loop-i-preserved
loop-i-preserved c =
    let ones = c.args.ones.now in
    let twos = c.args.twos.now in
    let within : c.loop-i.i < length ones = omega arith in
    let long : length ones ≡ length twos = omega arith in
    alike_more shared_messages ones twos c.loop-i.i _ _ within long c.index-ones-i.is c.index-twos-i.is
    c.loop-i.invariant (c.if-not-same_board.ensures.0 refl)
