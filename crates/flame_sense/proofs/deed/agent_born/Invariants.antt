use Rattle.std.proofs.Common.{◌≡◌, drop}
use Rattle.flame_spec.specs.Lists.{numbered_from}
use Rattle.flame_spec.specs.LookUps.{agent_born}
use Rattle.flame_sense.specs.declared.words.Form.TheVariants.{AddAgent}
use Rattle.flame_sense.specs.StandsFor.{is_written}
use Rattle.flame_sense.proofs.deed.agent_born.Given as goal

abbrev pub invariant-loop-number : goal.invariant-loop-number
invariant-loop-number l =
    agent_born l.agents l.word
    ≡ numbered_from (λ agent. is_written AddAgent l.word agent.name) l.number (drop l.number l.agents)
