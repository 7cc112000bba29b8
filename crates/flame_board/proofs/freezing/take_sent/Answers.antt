use Rattle.std.proofs.Common.{ap, arith, ◌∙◌, ◌∷◌, []}
use Rattle.crossbeam_channel.specs.Claims.{view}
use Rattle.flame_merging.proofs.RowWeights.{bags-push}
use Rattle.flame_board.specs.LaneParts.{weigh_bags, weigh_parts}
use Rattle.flame_board.specs.declared.logs.Log.{Log}
use Rattle.flame_board.proofs.Relays.{pops, knows}
use Rattle.flame_board.proofs.Weights.{weigh_parts-append}
use Rattle.flame_board.proofs.freezing.take_sent.Goals as goal

pub try_recv_as-requires-clause-rule : goal.try_recv_as-requires-clause-rule
try_recv_as-requires-clause-rule g c =
    (pops _ _ c.loop.invariant.takes, knows _ _ c.loop.invariant.sends c.loop.invariant.takes)

pub loop-preserved : goal.loop-preserved
loop-preserved g c =
    let then = c.in-Ok.ensures.rule in
    let part = c.in-Ok.part in
    record {
      seat = c.try_recv_as.ensures.channel.0;
      sends = ap (λ (w : Log). w.sends) then ∙ c.loop.invariant.sends;
      takes = ap (λ (w : Log). w.takes) then ∙ c.loop.invariant.takes;
      sent = ap (λ (w : Log). w.sent) then ∙ c.loop.invariant.sent;
      rows = λ weight. omega (
        arith,
        c.loop.invariant.rows weight,
        ap (weigh_bags weight) c.in_ok-push-in-Ok.ensures.items,
        bags-push weight c.loop.bags.items part.rows,
        ap (λ (w : Log). weigh_parts weight w.taken) then,
        weigh_parts-append weight (view c.loop.pass).taken (part ∷ []),
      );
    }
