use Rattle.std.proofs.Common.{◌≡◌, ap, ◌∙◌}
use Rattle.flame_events.specs.CoreStates.{fault_in, status_of, works_of}
use Rattle.flame_events.specs.EventSteps.{done_with}
use Rattle.flame_pieces.specs.KeptStatuses.{status_of as kept_status}
use Rattle.flame_progress.specs.KeptCores.{core_of}
use Rattle.flame_progress.proofs.Cores.{outputs_put, status_at, statuses_put}
use Rattle.flame_progress.proofs.Known.{done_has}
use Rattle.flame_progress.proofs.progress.Progress.shut.Goals as goal

pub returns-clause-core : goal.returns-clause-core
returns-clause-core c =
    let items = c.args.self.now.statuses.items in
    let f = c.args.function in
    let core = core_of c.args.self.now in
    let is : kept_status c.shut.new.self ≡ done_with (fault_in (works_of (status_of core f))) =
    c.shut.ensures
    ∙ ap (λ s. done_with (fault_in (works_of s))) (status_at items f c.index_mut.result.now c.requires c.index_mut.ensures.value) in
    let put = statuses_put items f c.shut.new.self (done_with (fault_in (works_of (status_of core f)))) is in
    λ i. record { statuses = put i; field = core.field; frozen = core.frozen }

pub returns-clause-outputs : goal.returns-clause-outputs
returns-clause-outputs c = λ other outputs has.
    outputs_put c.args.self.now.statuses.items c.args.function c.index_mut.result.now c.shut.new.self c.requires c.index_mut.ensures.value
    (λ outs _. done_has c.shut.new.self (fault_in (works_of (kept_status c.index_mut.result.now))) outs c.shut.ensures) other outputs has
