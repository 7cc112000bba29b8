use Rattle.std.proofs.Common.{List, ◌++◌, ◌||◌, ◌∙◌, map, refl, ap, ℕ}
use Rattle.std.specs.Prelude.{ℤ}
use Rattle.std.specs.List.{flat_map}
use Rattle.flame_spec.specs.declared.models.AgentType.{AgentType}
use Rattle.flame_popfile.specs.RowTexts.{agent_texts, agent_text}
use Rattle.flame_popfile.specs.CommaTexts.{behind, has_some}
use Rattle.std.proofs.lemmas.Slice.Zip.{either_empty_from_Zip}
use Rattle.flame_popfile.proofs.CommaLists.{lists_more, pairs_all, has_some-map}
use Rattle.flame_popfile.proofs.rows.push_all_agents.Goals as goal

abbrev texts_of : AgentType × List (List ℤ) → List (List ℕ)
texts_of (type, bag) = map (agent_text type) bag

pub loop-agent-preserved : goal.loop-agent-preserved
loop-agent-preserved g c =
    let type = c.in-Some.agent.now in
    lists_more texts_of _ _ c.loop-agent.more _ (has_some c.in-Some.bag.now) _ _ _ _ type c.in-Some.bag.now
    c.in-Some.ensures.steps.0 c.in-Some.ensures.steps.1
    (has_some-map (agent_text type) c.in-Some.bag.now)
    (c.in_ok-some.ensures.more ∙ ap (λ rows. c.loop-agent.more || has_some rows) c.rows.ensures.rows)
    (c.in_ok-some.ensures.text
    ∙ ap (λ rows. c.loop-agent.bytes.items ++ behind c.loop-agent.more (map (agent_text type) rows)) c.rows.ensures.rows)
    ∙ c.loop-agent.invariant

pub returns : goal.returns
returns g c =
    pairs_all (flat_map texts_of) c.args.bytes.now.items c.loop-agent.bytes.items c.loop-agent.more _ _
    (agent_texts c.args.agents.now c.args.bags.now) refl
    (either_empty_from_Zip c.loop-agent.agent-iterator c.next.new.self _ c.in-None.is c.next.ensures.steps)
    c.loop-agent.invariant
