use Rattle.std.proofs.Common.{map, refl}
use Rattle.flame_events.specs.CoreStates.{Open}
use Rattle.flame_pieces.specs.KeptWorks.{work_of}
use Rattle.flame_pieces.specs.declared.statuses.Status.TheVariants as is
use Rattle.flame_progress.specs.KeptCores.{core_of}
use Rattle.flame_progress.proofs.Cores.{statuses_put}
use Rattle.flame_progress.proofs.progress.Progress.start.Goals as goal

pub returns-clause-core : goal.returns-clause-core
returns-clause-core c =
    let self = c.args.self.now in
    let core = core_of self in
    let put = statuses_put self.statuses.items c.args.function (is.Open c.args.works) (Open (map work_of c.args.works.items)) refl in
    λ i. record { statuses = put i; field = core.field; frozen = core.frozen }
