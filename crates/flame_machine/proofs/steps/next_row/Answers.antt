use Rattle.std.proofs.Common.{subst}
use Rattle.flame_code.specs.Machine.{deliver}
use Rattle.flame_machine.specs.MachineFrames.{held, framed, config}
use Rattle.flame_machine.specs.MachineSteps.{Stepped}
use Rattle.flame_machine.proofs.steps.next_row.Goals as goal

pub returns-then-advance-clause-does : goal.returns-then-advance-clause-does
returns-then-advance-clause-does g c cells place locals memory added feeds =
    subst (λ there. Stepped place (deliver there c.args.line c.args.to (config place (framed (held c.args.frame.now cells) locals memory) added feeds))
    (framed (held c.pay.new.frame cells) locals memory) added feeds c.pay.result)
    c.if-advance.ensures.there (c.pay.ensures.does cells place locals memory added feeds)
