use Rattle.std.proofs.Common.{ap, arith}
use Rattle.crossbeam_channel.specs.Claims.{view}
use Rattle.flame_board.specs.LaneParts.{weigh_parts}
use Rattle.flame_board.specs.declared.logs.Log.{Log}
use Rattle.flame_board.proofs.Relays.{merges}
use Rattle.flame_board.proofs.Weights.{weigh-put_in}
use Rattle.flame_board.proofs.freezing.take_lane.Goals as goal

pub absorb-requires-clause-rule : goal.absorb-requires-clause-rule
absorb-requires-clause-rule g c = merges _ _ _ _ c.args.lane.sends c.args.lane.takes

pub returns : goal.returns
returns g c = λ weight.
    let lane = c.args.lane in
    omega (
      arith,
      c.in_ok-take_sent.ensures weight,
      c.in_ok-take_stayed.ensures weight,
      weigh-put_in weight lane.stayed.items (view lane.pass).sent,
      ap (λ (w : Log). weigh_parts weight w.sent) c.absorb.ensures.rule,
    )
