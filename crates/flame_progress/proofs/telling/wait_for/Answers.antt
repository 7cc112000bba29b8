use Rattle.std.proofs.Common.{◌≡◌, ◌+◌, false, ap, sym, ◌∙◌, drop, arith, get_or}
use Rattle.std.proofs.lemmas.List.{drop_more}
use Rattle.flame_pieces.specs.Waiting.{Waiting, thing_at}
use Rattle.flame_progress.specs.ManyWait.{waiting_for}
use Rattle.flame_progress.proofs.Waiters.{still_open}
use Rattle.flame_progress.proofs.telling.wait_for.Goals as goal

pub add-requires-clause-open : goal.add-requires-clause-open
add-requires-clause-open c =
    c.loop-thing.invariant.undone (get_or c.args.things.now c.loop-thing.thing-index 0)
    ∙ c.requires.open c.loop-thing.thing-index 0 c.loop-thing-test.true

pub add-requires-clause-within : goal.add-requires-clause-within
add-requires-clause-within c = omega (arith, c.requires.within, c.loop-thing.invariant.count)

pub loop-thing-preserved : goal.loop-thing-preserved
loop-thing-preserved c =
    let k = c.loop-thing.thing-index in
    let things = c.args.things.now in
    let thing = get_or things k 0 in
    let old = c.loop-thing.invariant in
    let added = c.in_ok-add.ensures.ok in
    let undone : (thing_at c.loop-thing.waits.things thing).done ≡ false =
    old.undone thing ∙ c.requires.open k 0 c.loop-thing-test.true in
    record {
      rest =
          ap (waiting_for c.args.waiter (drop (k + 1) things)) added
          ∙ sym (ap (λ l. waiting_for c.args.waiter l c.loop-thing.waits) (drop_more things k 0 c.loop-thing-test.true))
          ∙ old.rest;
      count = ap (λ (w : Waiting). w.count) added ∙ old.count;
      undone = λ j.
          ap (λ (w : Waiting). (thing_at w.things j).done) added
          ∙ still_open c.loop-thing.waits thing c.args.waiter undone j ∙ old.undone j;
    }
