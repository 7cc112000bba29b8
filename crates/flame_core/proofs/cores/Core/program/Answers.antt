use Rattle.std.proofs.Common.{ap, subst}
use Rattle.flame_core.specs.SeenCores.{Seen, IsReached}
use Rattle.flame_core.proofs.cores.Core.program.Goals as goal

pub returns-clause-source : goal.returns-clause-source
returns-clause-source c = ap (λ (s : Seen). s.source) c.self.view_is

pub returns-clause-reached : goal.returns-clause-reached
returns-clause-reached c = subst IsReached c.self.view_is c.self.invariant.reached
