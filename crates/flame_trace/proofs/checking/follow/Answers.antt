-- A line that tells the end, one that has an answer, and one that was gone by.
use Rattle.std.proofs.Common.{◌≡◌, ◌+◌, Option, Some, None, arith, rules, sym, ap, ◌∙◌, subst}
use Rattle.std.proofs.lemmas.Result.{IfOk-weaker}
use Rattle.flame_world.specs.declared.verdicts.Verdict.{Verdict}
use Rattle.flame_core.specs.SeenCores.{round_in}
use Rattle.flame_trace.specs.TraceLines.{parts}
use Rattle.flame_trace.specs.TraceSteps.{onward, WentBy}
use Rattle.flame_trace.specs.TraceVerdicts.{end_verdict}
use Rattle.flame_trace.proofs.Going.{same-run, went-on, answered, ended-at}
use Rattle.flame_trace.proofs.checking.follow.Goals as goal

pub returns-then-is_end : goal.returns-then-is_end
returns-then-is_end c =
    let first = c.args.core in
    let old = c.loop-line.core in
    let line = c.in-Some.line.now in
    let behind = c.in-Some.behind.now in
    let events = c.loop-line.events in
    let e :
    end_verdict (round_in old) events old.core line behind
    ≡ onward (round_in first) first.pieces first.core 0 (parts c.args.rest.now) =
    sym
    (c.loop-line.invariant.onward
    ∙ ap (onward (round_in first) first.pieces old.core events) c.in-Some.ensures.parts
    ∙ ended-at first old events line behind c.loop-line.invariant.same (sym c.is_end.ensures ∙ c.if-is_end.true)) in
    IfOk-weaker c.ended.result (λ found. found ≡ end_verdict (round_in old) events old.core line behind)
    (λ found. found ≡ onward (round_in first) first.pieces first.core 0 (parts c.args.rest.now)) (λ found is. is ∙ e)
    c.ended.ensures

pub returns-in-Some-2 : goal.returns-in-Some-2
returns-in-Some-2 c =
    let first = c.args.core in
    let old = c.loop-line.core in
    let line = c.in-Some.line.now in
    let behind = c.in-Some.behind.now in
    let went : WentBy old c.go_by.new.core (c.loop-line.events + 2) line (Some c.in-Some-2.answer) =
    subst (λ (o : Option Verdict). WentBy old c.go_by.new.core (c.loop-line.events + 2) line o) c.in-Some-2.is
    c.in_ok-answer.ensures in
    sym
    (c.loop-line.invariant.onward
    ∙ ap (onward (round_in first) first.pieces old.core c.loop-line.events) c.in-Some.ensures.parts
    ∙ answered first old c.go_by.new.core c.loop-line.events line behind c.in-Some-2.answer c.loop-line.invariant.same
    (sym c.is_end.ensures ∙ c.if-is_end.false) went)

pub loop-line-preserved : goal.loop-line-preserved
loop-line-preserved c =
    let first = c.args.core in
    let old = c.loop-line.core in
    let line = c.in-Some.line.now in
    let behind = c.in-Some.behind.now in
    let none : c.in_ok-answer.field-0 ≡ None =
    first_of (cc c.in_default-2.is, search rules) in
    let went : WentBy old c.go_by.new.core (c.loop-line.events + 2) line None =
    subst (λ (o : Option Verdict). WentBy old c.go_by.new.core (c.loop-line.events + 2) line o) none c.in_ok-answer.ensures in
    record {
      same = same-run first old c.go_by.new.core (c.loop-line.events + 2) line c.loop-line.invariant.same went;
      onward =
          c.loop-line.invariant.onward
          ∙ ap (onward (round_in first) first.pieces old.core c.loop-line.events) c.in-Some.ensures.parts
          ∙ went-on first old c.go_by.new.core c.loop-line.events line behind c.loop-line.invariant.same
          (sym c.is_end.ensures ∙ c.if-is_end.false) went;
      small = omega (arith, c.in-Some.ensures.shorter);
    }
