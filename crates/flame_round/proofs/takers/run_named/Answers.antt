use Rattle.std.proofs.lemmas.Result.{IfOk-weaker}
use Rattle.flame_round.proofs.Stepped.{left-named}
use Rattle.flame_round.proofs.takers.run_named.Goals as goal

pub returns : goal.returns
returns c =
    IfOk-weaker c.run_agents.result _ _
    (λ leaving left all named.
    left-named c.args.setting.now c.args.program.now c.args.function all c.args.agents.now leaving c.requires.source named
    left)
    c.run_agents.ensures
