use Rattle.std.proofs.Common.{◌≡◌, ◌+◌, false, ap, sym, ◌∙◌, drop, arith, get_or}
use Rattle.std.proofs.lemmas.List.{drop_more}
use Rattle.flame_pieces.specs.Waiting.{Waiting, thing_at}
use Rattle.flame_progress.specs.ManyWait.{waited_for_by}
use Rattle.flame_progress.proofs.Waiters.{still_open}
use Rattle.flame_progress.proofs.telling.tell_waiters.Goals as goal

pub add-requires-clause-open : goal.add-requires-clause-open
add-requires-clause-open c = c.loop-waiter.invariant.undone c.args.thing ∙ c.requires.open

pub add-requires-clause-within : goal.add-requires-clause-within
add-requires-clause-within c =
    omega (arith, c.requires.within c.loop-waiter.waiter-index 0 c.loop-waiter-test.true, c.loop-waiter.invariant.count)

pub loop-waiter-preserved : goal.loop-waiter-preserved
loop-waiter-preserved c =
    let k = c.loop-waiter.waiter-index in
    let waiters = c.args.waiters.now in
    let thing = c.args.thing in
    let waiter = get_or waiters k 0 in
    let old = c.loop-waiter.invariant in
    let added = c.in_ok-add.ensures.ok in
    let undone : (thing_at c.loop-waiter.waits.things thing).done ≡ false = old.undone thing ∙ c.requires.open in
    record {
      rest =
          ap (waited_for_by thing (drop (k + 1) waiters)) added
          ∙ sym (ap (λ l. waited_for_by thing l c.loop-waiter.waits) (drop_more waiters k 0 c.loop-waiter-test.true))
          ∙ old.rest;
      count = ap (λ (w : Waiting). w.count) added ∙ old.count;
      undone = λ j.
          ap (λ (w : Waiting). (thing_at w.things j).done) added
          ∙ still_open c.loop-waiter.waits thing waiter undone j ∙ old.undone j;
    }
