use Rattle.std.proofs.Common.{[], ◌∷◌, ◌++◌, map, get_or, take, ap, sym, ◌∙◌}
use Rattle.std.proofs.lemmas.List.{map-append, take_more}
use Rattle.flame_world.specs.AgentRuns.{messages_of}
use Rattle.flame_pieces.proofs.Rooms.{items_of}
use Rattle.flame_pieces.proofs.partings.no_parts.Goals as goal

pub loop-output-preserved : goal.loop-output-preserved
loop-output-preserved c =
    let outputs = c.args.outputs.now in
    let k = c.loop-output._output-index in
    let so_far = c.loop-output.invariant in
    let empty = c.new.ensures.items in
    ap (map items_of) c.in_ok-push.ensures.items
    ∙ map-append items_of c.loop-output.parts.items (c.new.result ∷ [])
    ∙ (λ i. so_far i ++ empty i ∷ [])
    ∙ sym (ap (map (messages_of [])) (take_more outputs k 0 c.loop-output-test.true)
    ∙ map-append (messages_of []) (take k outputs) (get_or outputs k 0 ∷ []))
