-- A piece is begun, or the flow is short.
use Rattle.std.proofs.Common.{◌<◌, true, length, refl, sym, ap, ◌∙◌, subst}
use Rattle.std.proofs.lemmas.Bool.{true≢false}
use Rattle.flame_spec.specs.Before.{function_count}
use Rattle.flame_events.specs.CoreStates.{status_of, works_of}
use Rattle.flame_flow.specs.declared.jobs.Ready.TheVariants.{Work}
use Rattle.flame_flow.specs.FlowCalls.{IsReady, IsJobOf, with_begun, cut_short}
use Rattle.flame_flow.specs.KeptWays.{IsWaysOf}
use Rattle.flame_flow.specs.SeenFlows.{SeenFlow}
use Rattle.flame_flow.specs.ToldCores.{ToldCore}
use Rattle.flame_flow.proofs.FlowSteps.{next_known, next_there, next_due, kept_begun}
use Rattle.flame_flow.proofs.flows.Flow.begin.Goals as goal

pub job_of-requires : goal.job_of-requires
job_of-requires c =
    let f = c.self.inside in
    let ready = subst (λ (s : SeenFlow). IsReady s (Work c.args.function c.args.piece)) (sym c.self.view_is) c.requires in
    (next_known f.going f.ways f.begun.items f.short c.self.invariant c.program-program.ensures.told ready.0 c.args.function c.args.piece ready.2).below

pub mark-requires-clause-there : goal.mark-requires-clause-there
mark-requires-clause-there c =
    let f = c.self.inside in
    let ready = subst (λ (s : SeenFlow). IsReady s (Work c.args.function c.args.piece)) (sym c.self.view_is) c.requires in
    next_there f.going f.ways f.begun.items f.short c.self.invariant c.program-program.ensures.told ready.0 c.args.function c.args.piece ready.2

pub mark-requires-clause-below : goal.mark-requires-clause-below
mark-requires-clause-below c =
    let f = c.self.inside in
    let ready = subst (λ (s : SeenFlow). IsReady s (Work c.args.function c.args.piece)) (sym c.self.view_is) c.requires in
    let all = c.pieces-pieces.ensures ∙ ap (λ (t : ToldCore). length (works_of (status_of t.seen.core c.args.function))) c.in-Ok.ensures.kept in
    subst (λ n. c.args.piece < n) (sym all)
    (next_known f.going f.ways f.begun.items f.short c.self.invariant c.program-program.ensures.told ready.0 c.args.function c.args.piece ready.2).below

pub mark-requires-clause-due : goal.mark-requires-clause-due
mark-requires-clause-due c =
    let f = c.self.inside in
    let ready = subst (λ (s : SeenFlow). IsReady s (Work c.args.function c.args.piece)) (sym c.self.view_is) c.requires in
    next_due f.going f.ways f.begun.items f.short c.self.invariant c.program-program.ensures.told ready.0 c.args.function c.args.piece ready.2

pub invariant_of-self : goal.invariant_of-self
invariant_of-self c =
    let f = c.self.inside in
    let ready = subst (λ (s : SeenFlow). IsReady s (Work c.args.function c.args.piece)) (sym c.self.view_is) c.requires in
    let all = c.pieces-pieces.ensures ∙ ap (λ (t : ToldCore). length (works_of (status_of t.seen.core c.args.function))) c.in-Ok.ensures.kept in
    kept_begun f.going f.ways f.begun.items f.short c.self.invariant c.program-program.ensures.told ready.0 c.args.function c.args.piece ready.2
    (record { told = c.job_of.new.told; due = c.mark.new.due; over = f.going.over }) c.mark.new.begun.items c.pieces-pieces.result
    c.in-Ok.ensures.kept refl c.mark.ensures.begun all c.mark.ensures.due

pub invariant_of-self-in-Err : goal.invariant_of-self-in-Err
invariant_of-self-in-Err c =
    let f = c.self.inside in
    let kept = c.in-Err.ensures.kept in
    record {
      ways_are = subst (λ (t : ToldCore). IsWaysOf t.seen.source.model f.ways) (sym kept) c.self.invariant.ways_are;
      long = c.self.invariant.long ∙ sym (ap (λ (t : ToldCore). function_count t.seen.source.model) kept);
      over = λ e. absurd (true≢false e);
      goes = λ e. absurd (true≢false e);
    }

pub returns-in-Ok-clause-job : goal.returns-in-Ok-clause-job
returns-in-Ok-clause-job c =
    subst (λ (s : SeenFlow). IsJobOf s.seen c.args.function c.args.piece c.in-Ok.job) c.self.view_is c.in-Ok.ensures.job

pub returns-in-Ok-clause-ok : goal.returns-in-Ok-clause-ok
returns-in-Ok-clause-ok c =
    let f = c.self.inside in
    let kept = c.in-Ok.ensures.kept in
    let begun = c.mark.ensures.begun in
    (λ i. record { seen = (kept i).seen; history = (kept i).history; begun = begun i; short = f.short })
    ∙ ap (with_begun c.args.function c.args.piece) c.self.view_is

pub returns-in-Err-clause-err : goal.returns-in-Err-clause-err
returns-in-Err-clause-err c =
    let f = c.self.inside in
    let kept = c.in-Err.ensures.kept in
    (λ i. record { seen = (kept i).seen; history = (kept i).history; begun = f.begun.items; short = true })
    ∙ ap cut_short c.self.view_is
