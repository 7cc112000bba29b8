-- The turn that the core comes to is its end.
use Rattle.std.proofs.Common.{sym, ap₂, ◌∙◌, subst, w32}
use Rattle.std.specs.Prelude.{ℤ}
use Rattle.std.proofs.lemmas.Int.{to_z-of_z}
use Rattle.std.proofs.lemmas.Result.{IfOk-weaker}
use Rattle.flame_spec.specs.declared.outcomes.Source.{Source}
use Rattle.flame_spec.specs.Accepted.{IsAccepted}
use Rattle.flame_trace.specs.TraceVerdicts.{turn_verdict}
use Rattle.flame_trace.proofs.Endings.{ended-is}
use Rattle.flame_trace.proofs.checking.ended.Goals as goal

pub returns : goal.returns
returns c =
    let same = c.program-program.ensures.source in
    IfOk-weaker c.compared.result _ _
    (λ found is.
    is
    ∙ ap₂
    (λ (source : Source) (number : ℤ).
    turn_verdict source.model number c.args.events c.in_ok-turn.turn c.args.line.now c.args.rest.now)
    same (to_z-of_z w32 c.args.iteration c.ranges.iteration ∙ sym c.requires.number)
    ∙ ended-is c.every_order.ensures c.args.core (subst IsAccepted same c.source-source.ensures.accepted)
    c.program-program.ensures.reached (sym c.complete.ensures.complete ∙ c.if-not-complete.false) c.in_ok-turn.turn
    c.in_ok-turn.ensures c.args.events c.args.line.now c.args.rest.now)
    c.compared.ensures
