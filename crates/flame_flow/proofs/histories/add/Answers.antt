use Rattle.std.proofs.Common.{◌++◌, ◌∷◌, [], ap, ◌∙◌, sym, append_assoc, replicate}
use Rattle.std.proofs.lemmas.List.{append-nil, replicate-append-replicate}
use Rattle.flame_flow.proofs.histories.add.Goals as goal

pub loop-time-init : goal.loop-time-init
loop-time-init c = sym (append-nil c.args.events.now.items)

pub loop-time-preserved : goal.loop-time-preserved
loop-time-preserved c =
    let old = c.args.events.now.items in
    let event = c.args.came.event in
    let time = c.loop-time._time in
    c.in_ok-push.ensures.items
    ∙ ap (λ l. l ++ event ∷ []) c.loop-time.invariant
    ∙ append_assoc old (replicate time event) (event ∷ [])
    ∙ ap (λ l. old ++ l) (replicate-append-replicate time 1 event)
