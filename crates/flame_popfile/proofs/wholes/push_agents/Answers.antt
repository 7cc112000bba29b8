-- The lists are those of the model and of the world.
use Rattle.std.proofs.Common.{◌++◌, ◌∙◌, map, sym, ap, ap₂}
use Rattle.std.proofs.lemmas.Result.{on_ok_weaker}
use Rattle.flame_spec.specs.declared.models.AgentType.{AgentType}
use Rattle.flame_popfile.specs.declared.formats.Format.{Format}
use Rattle.flame_popfile.specs.RowTexts.{with_commas, agent_texts, bag_texts}
use Rattle.flame_popfile.specs.IterationTexts.{all_agent_texts}
use Rattle.flame_popfile.proofs.wholes.push_agents.Goals as goal

pub returns-in-One : goal.returns-in-One
returns-in-One g c =
    on_ok_weaker c.push_all_agents.result
    (λ e.
    e
    ∙ ap₂ (λ types bags. c.args.bytes.now.items ++ with_commas (agent_texts types bags)) c.items-agents.ensures
    c.items-bags.ensures
    ∙ ap
    (λ (format : Format). c.args.bytes.now.items
    ++ with_commas (all_agent_texts format c.args.model.now.agents c.args.world.now.agents))
    (sym c.in-One.is))
    c.push_all_agents.ensures

pub returns-in-Two : goal.returns-in-Two
returns-in-Two g c =
    on_ok_weaker c.push_type_bags.result
    (λ e.
    e
    ∙ ap₂
    (λ types bags. c.args.bytes.now.items
    ++ with_commas (bag_texts (map (λ (type : AgentType). type.name) types) bags))
    c.items-agents.ensures c.items-bags.ensures
    ∙ ap
    (λ (format : Format). c.args.bytes.now.items
    ++ with_commas (all_agent_texts format c.args.model.now.agents c.args.world.now.agents))
    (sym c.in-Two.is))
    c.push_type_bags.ensures
