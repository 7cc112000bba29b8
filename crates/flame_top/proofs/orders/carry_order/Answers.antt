use Rattle.std.proofs.Common.{◌≡◌, Ok, ap, sym, ◌∙◌, subst}
use Rattle.flame_outside.specs.Scripts.{outside}
use Rattle.flame_words.specs.OrderLimits.{IsWithin}
use Rattle.flame_words.specs.declared.orders.Order.{Order}
use Rattle.flame_words.specs.declared.orders.Order.TheVariants.{Run, Check, Graph, Code, Trial, Migrate, Trace, Replay}
use Rattle.flame_top.specs.CallAnswers.{OrdersIterations}
use Rattle.flame_top.proofs.OrderedWords.{some_as, carries_as, trial_as}
use Rattle.flame_top.proofs.orders.carry_order.Goals as goal

pub returns-in-Run-clause-carries : goal.returns-in-Run-clause-carries
returns-in-Run-clause-carries g c = λ told read tells reads.
    let called = c.carry_run in
    carries_as read told c.args.order.now (Run c.in-Run.order) called.result.ending called.result.files
    (outside (g.D.Depot.seen c.args.depot.now) (g.S.Sink.seen c.args.out.now))
    (outside (g.D.Depot.seen called.new.depot) (g.S.Sink.seen called.new.out))
    c.in-Run.is tt (called.ensures.carries told read tells reads)

pub returns-in-Run-clause-carries_trial : goal.returns-in-Run-clause-carries_trial
returns-in-Run-clause-carries_trial g c = λ read reads.
    let called = c.carry_run in
    trial_as read c.args.order.now (Run c.in-Run.order) called.result.ending called.result.files
    (outside (g.D.Depot.seen c.args.depot.now) (g.S.Sink.seen c.args.out.now))
    (outside (g.D.Depot.seen called.new.depot) (g.S.Sink.seen called.new.out))
    c.in-Run.is tt

pub returns-in-Run-clause-faulted : goal.returns-in-Run-clause-faulted
returns-in-Run-clause-faulted g c = λ faulted.
    subst (λ (order : Order). OrdersIterations (Ok order)) (sym c.in-Run.is) tt

pub returns-in-Check-clause-carries : goal.returns-in-Check-clause-carries
returns-in-Check-clause-carries g c = λ told read tells reads.
    let called = c.carry_text in
    carries_as read told c.args.order.now (Check c.as_str.result.now) called.result.ending called.result.files
    (outside (g.D.Depot.seen c.args.depot.now) (g.S.Sink.seen c.args.out.now))
    (outside (g.D.Depot.seen called.new.depot) (g.S.Sink.seen called.new.out))
    (c.in-Check.is ∙ ap Check (sym c.as_str.ensures)) tt (called.ensures.carries told read tells reads)

pub returns-in-Check-clause-carries_trial : goal.returns-in-Check-clause-carries_trial
returns-in-Check-clause-carries_trial g c = λ read reads.
    let called = c.carry_text in
    trial_as read c.args.order.now (Check c.as_str.result.now) called.result.ending called.result.files
    (outside (g.D.Depot.seen c.args.depot.now) (g.S.Sink.seen c.args.out.now))
    (outside (g.D.Depot.seen called.new.depot) (g.S.Sink.seen called.new.out))
    (c.in-Check.is ∙ ap Check (sym c.as_str.ensures)) tt

pub returns-in-Check-clause-faulted : goal.returns-in-Check-clause-faulted
returns-in-Check-clause-faulted g c = λ faulted. absurd (c.carry_text.ensures.faultless faulted)

pub returns-in-Graph-clause-carries : goal.returns-in-Graph-clause-carries
returns-in-Graph-clause-carries g c = λ told read tells reads.
    let called = c.carry_text-in-Graph in
    carries_as read told c.args.order.now (Graph c.as_str-in-Graph.result.now) called.result.ending called.result.files
    (outside (g.D.Depot.seen c.args.depot.now) (g.S.Sink.seen c.args.out.now))
    (outside (g.D.Depot.seen called.new.depot) (g.S.Sink.seen called.new.out))
    (c.in-Graph.is ∙ ap Graph (sym c.as_str-in-Graph.ensures)) tt (called.ensures.carries told read tells reads)

pub returns-in-Graph-clause-carries_trial : goal.returns-in-Graph-clause-carries_trial
returns-in-Graph-clause-carries_trial g c = λ read reads.
    let called = c.carry_text-in-Graph in
    trial_as read c.args.order.now (Graph c.as_str-in-Graph.result.now) called.result.ending called.result.files
    (outside (g.D.Depot.seen c.args.depot.now) (g.S.Sink.seen c.args.out.now))
    (outside (g.D.Depot.seen called.new.depot) (g.S.Sink.seen called.new.out))
    (c.in-Graph.is ∙ ap Graph (sym c.as_str-in-Graph.ensures)) tt

pub returns-in-Graph-clause-faulted : goal.returns-in-Graph-clause-faulted
returns-in-Graph-clause-faulted g c = λ faulted. absurd (c.carry_text-in-Graph.ensures.faultless faulted)

pub returns-in-Code-clause-carries : goal.returns-in-Code-clause-carries
returns-in-Code-clause-carries g c = λ told read tells reads.
    let called = c.carry_text-in-Code in
    carries_as read told c.args.order.now (Code c.as_str-in-Code.result.now) called.result.ending called.result.files
    (outside (g.D.Depot.seen c.args.depot.now) (g.S.Sink.seen c.args.out.now))
    (outside (g.D.Depot.seen called.new.depot) (g.S.Sink.seen called.new.out))
    (c.in-Code.is ∙ ap Code (sym c.as_str-in-Code.ensures)) tt (called.ensures.carries told read tells reads)

pub returns-in-Code-clause-carries_trial : goal.returns-in-Code-clause-carries_trial
returns-in-Code-clause-carries_trial g c = λ read reads.
    let called = c.carry_text-in-Code in
    trial_as read c.args.order.now (Code c.as_str-in-Code.result.now) called.result.ending called.result.files
    (outside (g.D.Depot.seen c.args.depot.now) (g.S.Sink.seen c.args.out.now))
    (outside (g.D.Depot.seen called.new.depot) (g.S.Sink.seen called.new.out))
    (c.in-Code.is ∙ ap Code (sym c.as_str-in-Code.ensures)) tt

pub returns-in-Code-clause-faulted : goal.returns-in-Code-clause-faulted
returns-in-Code-clause-faulted g c = λ faulted. absurd (c.carry_text-in-Code.ensures.faultless faulted)

pub returns-in-Trial-clause-carries : goal.returns-in-Trial-clause-carries
returns-in-Trial-clause-carries g c = λ told read tells reads.
    let called = c.carry_trial in
    carries_as read told c.args.order.now (Trial c.in-Trial.order) called.result.ending called.result.files
    (outside (g.D.Depot.seen c.args.depot.now) (g.S.Sink.seen c.args.out.now))
    (outside (g.D.Depot.seen c.args.depot.now) (g.S.Sink.seen called.new.out))
    c.in-Trial.is tt (called.ensures.carries read (g.D.Depot.seen c.args.depot.now) reads)

pub returns-in-Trial-clause-faulted : goal.returns-in-Trial-clause-faulted
returns-in-Trial-clause-faulted g c = λ faulted.
    subst (λ (order : Order). OrdersIterations (Ok order)) (sym c.in-Trial.is) tt

pub returns-in-Trial-clause-carries_trial : goal.returns-in-Trial-clause-carries_trial
returns-in-Trial-clause-carries_trial g c = λ read reads.
    let called = c.carry_trial in
    trial_as read c.args.order.now (Trial c.in-Trial.order) called.result.ending called.result.files
    (outside (g.D.Depot.seen c.args.depot.now) (g.S.Sink.seen c.args.out.now))
    (outside (g.D.Depot.seen c.args.depot.now) (g.S.Sink.seen called.new.out))
    c.in-Trial.is (called.ensures.carries read (g.D.Depot.seen c.args.depot.now) reads)

pub returns-in-Trial-clause-keeps : goal.returns-in-Trial-clause-keeps
returns-in-Trial-clause-keeps g c = c.carry_trial.ensures.keeps (g.D.Depot.seen c.args.depot.now)

pub returns-in-Migrate-clause-carries : goal.returns-in-Migrate-clause-carries
returns-in-Migrate-clause-carries g c = λ told read tells reads.
    let called = c.carry_migrate in
    let model = c.as_str-in-Migrate in
    let pop = c.as_str-in-Migrate-2 in
    let to = c.as_str-in-Migrate-3 in
    let same : c.args.order.now ≡ Migrate model.result.now pop.result.now to.result.now
    = cc (c.in-Migrate.is, model.ensures, pop.ensures, to.ensures) in
    carries_as read told c.args.order.now (Migrate model.result.now pop.result.now to.result.now) called.result.ending called.result.files
    (outside (g.D.Depot.seen c.args.depot.now) (g.S.Sink.seen c.args.out.now))
    (outside (g.D.Depot.seen called.new.depot) (g.S.Sink.seen called.new.out))
    same tt (called.ensures.carries told read tells reads)

pub returns-in-Migrate-clause-carries_trial : goal.returns-in-Migrate-clause-carries_trial
returns-in-Migrate-clause-carries_trial g c = λ read reads.
    let called = c.carry_migrate in
    let model = c.as_str-in-Migrate in
    let pop = c.as_str-in-Migrate-2 in
    let to = c.as_str-in-Migrate-3 in
    let same : c.args.order.now ≡ Migrate model.result.now pop.result.now to.result.now
    = cc (c.in-Migrate.is, model.ensures, pop.ensures, to.ensures) in
    trial_as read c.args.order.now (Migrate model.result.now pop.result.now to.result.now) called.result.ending called.result.files
    (outside (g.D.Depot.seen c.args.depot.now) (g.S.Sink.seen c.args.out.now))
    (outside (g.D.Depot.seen called.new.depot) (g.S.Sink.seen called.new.out))
    same tt

pub returns-in-Migrate-clause-faulted : goal.returns-in-Migrate-clause-faulted
returns-in-Migrate-clause-faulted g c = λ faulted. absurd (c.carry_migrate.ensures.faultless faulted)

pub returns-in-Trace-clause-carries : goal.returns-in-Trace-clause-carries
returns-in-Trace-clause-carries g c = λ told read tells reads.
    let called = c.carry_trace in
    some_as read told c.args.order.now (Trace c.in-Trace.order) called.result.ending called.result.files
    (outside (g.D.Depot.seen c.args.depot.now) (g.S.Sink.seen c.args.out.now))
    (outside (g.D.Depot.seen called.new.depot) (g.S.Sink.seen called.new.out))
    c.in-Trace.is (called.ensures.carries told read tells reads)

pub returns-in-Trace-clause-carries_trial : goal.returns-in-Trace-clause-carries_trial
returns-in-Trace-clause-carries_trial g c = λ read reads.
    let called = c.carry_trace in
    trial_as read c.args.order.now (Trace c.in-Trace.order) called.result.ending called.result.files
    (outside (g.D.Depot.seen c.args.depot.now) (g.S.Sink.seen c.args.out.now))
    (outside (g.D.Depot.seen called.new.depot) (g.S.Sink.seen called.new.out))
    c.in-Trace.is tt

pub returns-in-Trace-clause-faulted : goal.returns-in-Trace-clause-faulted
returns-in-Trace-clause-faulted g c = λ faulted.
    subst (λ (order : Order). OrdersIterations (Ok order)) (sym c.in-Trace.is) tt

pub carry_trace-requires-clause-within : goal.carry_trace-requires-clause-within
carry_trace-requires-clause-within g c κs within = subst IsWithin c.in-Trace.is c.requires.within

pub returns-in-Replay-clause-carries : goal.returns-in-Replay-clause-carries
returns-in-Replay-clause-carries g c = λ told read tells reads.
    let called = c.carry_replay in
    let model = c.as_str-in-Replay in
    let pop = c.as_str-in-Replay-2 in
    let name = c.as_str-in-Replay-3 in
    let same : c.args.order.now ≡ Replay model.result.now pop.result.now name.result.now
    = cc (c.in-Replay.is, model.ensures, pop.ensures, name.ensures) in
    carries_as read told c.args.order.now (Replay model.result.now pop.result.now name.result.now) called.result.ending called.result.files
    (outside (g.D.Depot.seen c.args.depot.now) (g.S.Sink.seen c.args.out.now))
    (outside (g.D.Depot.seen called.new.depot) (g.S.Sink.seen called.new.out))
    same tt (called.ensures.carries told read tells reads)

pub returns-in-Replay-clause-carries_trial : goal.returns-in-Replay-clause-carries_trial
returns-in-Replay-clause-carries_trial g c = λ read reads.
    let called = c.carry_replay in
    let model = c.as_str-in-Replay in
    let pop = c.as_str-in-Replay-2 in
    let name = c.as_str-in-Replay-3 in
    let same : c.args.order.now ≡ Replay model.result.now pop.result.now name.result.now
    = cc (c.in-Replay.is, model.ensures, pop.ensures, name.ensures) in
    trial_as read c.args.order.now (Replay model.result.now pop.result.now name.result.now) called.result.ending called.result.files
    (outside (g.D.Depot.seen c.args.depot.now) (g.S.Sink.seen c.args.out.now))
    (outside (g.D.Depot.seen called.new.depot) (g.S.Sink.seen called.new.out))
    same tt

pub returns-in-Replay-clause-faulted : goal.returns-in-Replay-clause-faulted
returns-in-Replay-clause-faulted g c = λ faulted. absurd (c.carry_replay.ensures.faultless faulted)
