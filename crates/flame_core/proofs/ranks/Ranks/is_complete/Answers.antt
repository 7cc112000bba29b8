-- Whether a core is complete, as far as it is known to be.
use Rattle.std.proofs.Common.{ap, ◌∙◌, length}
use Rattle.std.specs.Prelude.{◌==◌}
use Rattle.flame_core.proofs.ShutRanks.{complete_before, complete_whole}
use Rattle.flame_core.proofs.ranks.Ranks.is_complete.Goals as goal

pub returns-in-Some : goal.returns-in-Some
returns-in-Some c = λ core is. complete_before c.args.program.now.model core c.args.self.now c.in-Some.rank is c.in-Some.is

pub returns-in-None : goal.returns-in-None
returns-in-None c = λ core is.
    ap (λ n. c.args.self.now.shut == n) (c.len.ensures ∙ ap length c.plan.ensures.order)
    ∙ complete_whole c.args.program.now.model core c.args.self.now is c.in-None.is
