-- The start of one type more.
use Rattle.std.proofs.Common.{◌≡◌, ◌∙◌, ◌+◌, List, ◌∷◌, [], ◌++◌, append_assoc, ap, sym, not, map, drop}
use Rattle.std.specs.List.{position_or_len}
use Rattle.std.proofs.lemmas.List.{at_drop_more}
use Rattle.flame_spec.specs.declared.models.AgentType.{AgentType}
use Rattle.flame_spec.specs.declared.models.Function.{Function}
use Rattle.flame_spec.specs.States.{is_entered, states}
use Rattle.flame_route.specs.ModelRoutes.{start_place}
use Rattle.flame_route.proofs.starts.starts_of.Goals as goal

pub loop-agent-preserved : goal.loop-agent-preserved
loop-agent-preserved c =
    let agents = c.args.agents.now in
    let i = c.loop-agent.agent-index in
    let agent = c.agent-item.result in
    let starts = c.loop-agent.starts.items in
    let rest = map start_place (drop (i + 1) agents) in
    let start : c.in_ok-start.start ≡ start_place agent =
    c.in_ok-start.ensures ∙ c.in_ok-place.ensures
    ∙ ap (λ (functions : List Function). position_or_len (λ state. not (is_entered functions state)) (states functions))
    c.items.ensures in
    ap (λ items. items ++ rest) c.in_ok-push.ensures.items
    ∙ append_assoc starts (c.in_ok-start.start ∷ []) rest
    ∙ ap (λ place. starts ++ place ∷ rest) start
    ∙ sym (at_drop_more (λ types. starts ++ map start_place types) agents i agent c.loop-agent-test.true
    ∙ ap (λ (type : AgentType). starts ++ map start_place (type ∷ drop (i + 1) agents)) (sym c.agent-item.is))
    ∙ c.loop-agent.invariant
