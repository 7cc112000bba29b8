-- The functions of one type more.
use Rattle.std.proofs.Common.{◌≡◌, ◌+◌, ◌<◌, ◌++◌, ◌∷◌, length, map, drop, get_or, ap, sym, ◌∙◌, arith}
use Rattle.std.proofs.lemmas.List.{drop_more, length-map, length-append}
use Rattle.flame_spec.specs.declared.models.AgentType.{AgentType}
use Rattle.flame_spec.specs.declared.models.Function.{Function}
use Rattle.flame_spec.specs.Functions.{at_type, functions_from}
use Rattle.flame_spec.proofs.models.Model.has_few_functions.Goals as goal

pub loop-agent-preserved : goal.loop-agent-preserved
loop-agent-preserved c =
    let agents = c.args.self.now.agents in
    let i = c.loop-agent._agent in
    let kind = c.kind-item.result in
    let all = c.items-kind-items.ensures in
    let bound : i < length agents = omega (arith, c.loop-agent-test.true, ap (length {A = AgentType}) all) in
    let is : kind ≡ get_or agents i kind = c.kind-item.is ∙ ap (λ xs. get_or xs i kind) all in
    let rest : length (functions_from i (drop i agents)) ≡ length (map (at_type i kind) kind.functions ++ functions_from (i + 1) (drop (i + 1) agents)) = ap (λ xs. length (functions_from i xs)) (drop_more agents i kind bound ∙ ap (λ k. k ∷ drop (i + 1) agents) (sym is)) in
    let parts : length (map (at_type i kind) kind.functions ++ functions_from (i + 1) (drop (i + 1) agents)) ≡ length (map (at_type i kind) kind.functions) + length (functions_from (i + 1) (drop (i + 1) agents)) = length-append (map (at_type i kind) kind.functions) (functions_from (i + 1) (drop (i + 1) agents)) in
    let own : length c.items.result.now ≡ length kind.functions = ap (length {A = Function}) c.items.ensures in
    record {
      rest = omega (arith, c.loop-agent.invariant.rest, rest, parts, own, length-map kind.functions (at_type i kind));
      small = omega (arith, c.loop-agent.invariant.small);
    }
