use Rattle.std.proofs.Common.{◌∙◌, ap, sym, true, false}
use Rattle.std.specs.List.{list_any}
use Rattle.std.specs.Str.{bytes_eq}
use Rattle.flame_sense.proofs.Searches.{any_at}
use Rattle.flame_sense.proofs.found.is_transition.Goals as goal

pub returns-then-names_one : goal.returns-then-names_one
returns-then-names_one c =
    let within = rw c.items-agent-items.ensures at c.loop-agent-test.true in
    let is = rw c.items-agent-items.ensures at c.agent-item.is in
    sym (c.loop-agent.invariant
    ∙ any_at c.args.name.now c.args.model.now.agents c.loop-agent.agent-index c.agent-item.result true within is
    (sym c.if-names_one.true ∙ c.names_one.ensures ∙ ap (list_any (λ function. bytes_eq c.args.name.now function.name)) c.items.ensures))

pub loop-agent-preserved : goal.loop-agent-preserved
loop-agent-preserved c =
    let within = rw c.items-agent-items.ensures at c.loop-agent-test.true in
    let is = rw c.items-agent-items.ensures at c.agent-item.is in
    c.loop-agent.invariant
    ∙ any_at c.args.name.now c.args.model.now.agents c.loop-agent.agent-index c.agent-item.result false within is
    (sym c.if-names_one.false ∙ c.names_one.ensures ∙ ap (list_any (λ function. bytes_eq c.args.name.now function.name)) c.items.ensures)
