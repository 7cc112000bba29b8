use Rattle.std.proofs.Common.{◌≡◌, ◌+◌, ◌-◌, ◌∙◌, ap, sym, Some, length, arith}
use Rattle.flame_spec.specs.Functions.{at_type}
use Rattle.flame_sense.proofs.Searches.{function_here, function_later}
use Rattle.flame_case_nodes.proofs.fitting.function_of.Goals as goal

pub returns-then-left-functions : goal.returns-then-left-functions
returns-then-left-functions c =
    let within = rw c.items-agent-items.ensures at c.loop-number-test.true in
    let is = rw c.items-agent-items.ensures at c.agent-item.is in
    let inside = rw c.items-functions.ensures at c.if-left-functions.true in
    let got = rw c.items-functions.ensures at c.index-functions-left.is in
    sym (c.loop-number.invariant
    ∙ function_here c.args.model.now.agents c.loop-number.number c.agent-item.result c.loop-number.left
    c.index-functions-left.result within is inside
    ∙ ap (λ f. Some (at_type c.loop-number.number c.agent-item.result f)) (sym got))

pub loop-number-preserved : goal.loop-number-preserved
loop-number-preserved c =
    let within = rw c.items-agent-items.ensures at c.loop-number-test.true in
    let is = rw c.items-agent-items.ensures at c.agent-item.is in
    let rest : c.loop-number.left ≡ length c.agent-item.result.functions + (c.loop-number.left - length c.items-functions.result.now) =
    omega (arith, ap length c.items-functions.ensures) in
    c.loop-number.invariant
    ∙ function_later c.args.model.now.agents c.loop-number.number c.agent-item.result c.loop-number.left
    (c.loop-number.left - length c.items-functions.result.now) within is rest
