-- What is recorded of an iteration.
use Rattle.std.proofs.Common.{ℤ, subst, w32}
use Rattle.std.specs.Prelude.{IfOk}
use Rattle.std.proofs.lemmas.Int.{to_z-of_z}
use Rattle.std.proofs.lemmas.Result.{IfOk-weaker}
use Rattle.flame_flow.specs.SeenFlows.{Start}
use Rattle.flame_flowrun.specs.FlowRecords.{IsRecordOf}
use Rattle.flame_flowrun.proofs.runners.FlowRunner.recorded.Goals as goal

pub returns-clause-turn : goal.returns-clause-turn
returns-clause-turn g c =
    let start : ℤ → Start =
    λ i. record { source = c.args.program.now; world = c.args.world; iteration = i; fuel = c.args.fuel; pieces = c.args.self.now } in
    IfOk-weaker c.record_as.result (IsRecordOf (start c.args.iteration)) _ (λ recorded is. is.turn)
    (subst (λ i. IfOk c.record_as.result (IsRecordOf (start i))) (to_z-of_z w32 c.args.iteration c.ranges.iteration) c.record_as.ensures)

pub returns-clause-legal : goal.returns-clause-legal
returns-clause-legal g c =
    let start : ℤ → Start =
    λ i. record { source = c.args.program.now; world = c.args.world; iteration = i; fuel = c.args.fuel; pieces = c.args.self.now } in
    IfOk-weaker c.record_as.result (IsRecordOf (start c.args.iteration)) _ (λ recorded is. is.legal)
    (subst (λ i. IfOk c.record_as.result (IsRecordOf (start i))) (to_z-of_z w32 c.args.iteration c.ranges.iteration) c.record_as.ensures)

pub returns-clause-complete : goal.returns-clause-complete
returns-clause-complete g c =
    let start : ℤ → Start =
    λ i. record { source = c.args.program.now; world = c.args.world; iteration = i; fuel = c.args.fuel; pieces = c.args.self.now } in
    IfOk-weaker c.record_as.result (IsRecordOf (start c.args.iteration)) _ (λ recorded is. is.complete)
    (subst (λ i. IfOk c.record_as.result (IsRecordOf (start i))) (to_z-of_z w32 c.args.iteration c.ranges.iteration) c.record_as.ensures)
