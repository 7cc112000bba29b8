use Rattle.std.proofs.Common.{◌∙◌, ◌+◌, ◌∷◌, drop, map, ap, sym}
use Rattle.std.proofs.lemmas.Result.{err_from_is_err_and}
use Rattle.flame_spec.specs.Scopes.{after_items, after_name}
use Rattle.flame_spec.specs.Seen.{declared}
use Rattle.flame_spec.specs.StatementFaults.{item_faults, items_faults}
use Rattle.flame_spec.proofs.FaultLists.{FailsFirst-front}
use Rattle.flame_lookup.specs.Sources.{context_at}
use Rattle.flame_body.specs.NumberedTrees.{numbered_item, numbered_items}
use Rattle.flame_numbering.specs.WordPlaces.{words_at}
use Rattle.flame_numbering.proofs.Firsts.{clean-next}
use Rattle.flame_numbering.proofs.Rests.{rest-next, rest-pushed}
use Rattle.flame_numbering.proofs.stored.items.Goals as goal

pub returns-in_err-slot-clause-first : goal.returns-in_err-slot-clause-first
returns-in_err-slot-clause-first c =
    let p = err_from_is_err_and c.from_residual.result c.from_residual.ensures.1 in
    let context = context_at c.args.words.now in
    let sight = c.loop-item.spot in
    let i = c.loop-item.item-index in
    let all = c.args.items.now in
    let one = c.item-item.result in
    let rest = items_faults context (after_name sight one.name) (map declared (drop (i + 1) all)) in
    rw (p.1, p.2)
    (FailsFirst-front
    _
    (items_faults context c.args.spot.now (map declared all))
    (item_faults context sight (declared one))
    rest
    (c.loop-item.invariant.clean
    ∙ rest-next (λ l. items_faults context sight (map declared l)) all i one c.loop-item-test.true c.item-item.is)
    c.in_err-slot.ensures.first)

pub loop-item-preserved : goal.loop-item-preserved
loop-item-preserved c =
    let context = context_at c.args.words.now in
    let words = words_at c.args.words.now in
    let start = c.args.spot.now in
    let sight = c.loop-item.spot in
    let i = c.loop-item.item-index in
    let all = c.args.items.now in
    let one = c.item-item.result in
    let left = map declared (drop i all) in
    let behind = map declared (drop (i + 1) all) in
    let seen = sym c.in_ok-slot.ensures.after in
    record {
      clean = clean-next (items_faults context start (map declared all)) (items_faults context sight left)
          (item_faults context sight (declared one)) (items_faults context (after_name sight one.name) behind)
          c.loop-item.invariant.clean
          (rest-next (λ l. items_faults context sight (map declared l)) all i one c.loop-item-test.true c.item-item.is)
          c.in_ok-slot.ensures.clean
          ∙ ap (λ x. items_faults context x behind) seen;
      stands = rest-pushed (numbered_items words start (map declared all)) c.loop-item.slots.items _
          (numbered_items words sight left) (numbered_item words sight (declared one)) c.in_ok-slot.slot
          (numbered_items words c.declaration.new.spot behind)
          c.loop-item.invariant.stands
          (rest-next (λ l. numbered_items words sight (map declared l)) all i one c.loop-item-test.true c.item-item.is
          ∙ ap (λ x. numbered_item words sight (declared one) ∷ numbered_items words x behind) seen)
          c.in_ok-slot.ensures.stands
          c.in_ok-push.ensures.items;
      seen = c.loop-item.invariant.seen
          ∙ rest-next (λ l. after_items sight (map declared l)) all i one c.loop-item-test.true c.item-item.is
          ∙ ap (λ x. after_items x behind) seen;
    }
