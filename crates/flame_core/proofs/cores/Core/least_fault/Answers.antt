use Rattle.std.proofs.Common.{ap, ◌∙◌}
use Rattle.flame_events.specs.CoreEnds.{least_fault_rank}
use Rattle.flame_core.specs.SeenCores.{Seen}
use Rattle.flame_core.proofs.cores.Core.least_fault.Goals as goal

pub returns : goal.returns
returns c = c.self.invariant.ranked.fault_is ∙ ap (λ (s : Seen). least_fault_rank s.source.model s.core) c.self.view_is
