-- An event came: which fault is the least.
use Rattle.std.proofs.Common.{◌≡◌, true, false, sym, ap, ◌∙◌, ⊎_elim}
use Rattle.std.proofs.lemmas.Bool.{cases_Bool}
use Rattle.flame_events.specs.CoreEnds.{is_faulted}
use Rattle.flame_events.specs.EventSteps.{after}
use Rattle.flame_events.specs.LegalEvents.{is_legal}
use Rattle.flame_orders.specs.LastingEnds.{shut_by}
use Rattle.flame_progress.specs.KeptCores.{core_of}
use Rattle.flame_core.proofs.ShutRanks.{fault_stays, fault_stays_shut}
use Rattle.flame_core.proofs.ranks.Ranks.follow.Goals as goal

pub returns-in-Open-clause-fault : goal.returns-in-Open-clause-fault
returns-in-Open-clause-fault c = λ round pieces core same legal is was.
    fault_stays c.args.program.now.model round pieces core (core_of c.args.progress.now) c.args.event c.go_on.new.self.fault same legal is
    (ap shut_by c.in-Open.is) (c.go_on.ensures.fault ∙ was)

pub returns-in-Agent-clause-fault : goal.returns-in-Agent-clause-fault
returns-in-Agent-clause-fault c = λ round pieces core same legal is was.
    fault_stays c.args.program.now.model round pieces core (core_of c.args.progress.now) c.args.event c.go_on.new.self.fault same legal is
    (ap shut_by c.in-Agent.is) (c.go_on.ensures.fault ∙ was)

pub returns-in-HandIn-clause-fault : goal.returns-in-HandIn-clause-fault
returns-in-HandIn-clause-fault c = λ round pieces core same legal is was.
    fault_stays c.args.program.now.model round pieces core (core_of c.args.progress.now) c.args.event c.go_on.new.self.fault same legal is
    (ap shut_by c.in-HandIn.is) (c.go_on.ensures.fault ∙ was)

pub returns-in-Freeze-clause-fault : goal.returns-in-Freeze-clause-fault
returns-in-Freeze-clause-fault c = λ round pieces core same legal is was.
    fault_stays c.args.program.now.model round pieces core (core_of c.args.progress.now) c.args.event c.go_on.new.self.fault same legal is
    (ap shut_by c.in-Freeze.is) (c.go_on.ensures.fault ∙ was)

pub returns-in-Shut-clause-fault : goal.returns-in-Shut-clause-fault
returns-in-Shut-clause-fault c = λ round pieces core same legal is was.
    let next = core_of c.args.progress.now in
    let f = c.in-Shut.function in
    ⊎_elim
    (λ (faulted : is_faulted next f ≡ true). c.note_fault.ensures.fault faulted)
    (λ (sound : is_faulted next f ≡ false).
    fault_stays_shut c.args.program.now.model round pieces f core next c.note_fault.new.self.fault same
    (ap (is_legal round.source.model core) (sym c.in-Shut.is) ∙ legal)
    (is ∙ ap (after round pieces core) c.in-Shut.is) sound
    (c.note_fault.ensures.none sound ∙ c.go_on.ensures.fault ∙ was))
    (cases_Bool (is_faulted next f))
