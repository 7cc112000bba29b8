use Rattle.std.proofs.Common.{List, ◌++◌, ◌∙◌, map, refl, ap, ap₂, ℕ}
use Rattle.std.specs.Prelude.{ℤ}
use Rattle.flame_spec.specs.declared.models.AgentType.{AgentType}
use Rattle.flame_popfile.specs.RowTexts.{bag_texts, bag_text}
use Rattle.std.proofs.lemmas.Slice.Zip.{either_empty_from_Zip}
use Rattle.flame_popfile.proofs.CommaLists.{pairs_more, pairs_all, mapped_ended}
use Rattle.flame_popfile.proofs.boards.push_type_bags.Goals as goal

abbrev text_of : List ℕ × List (List ℤ) → List ℕ
text_of (name, bag) = bag_text name bag

pub loop-agent-preserved : goal.loop-agent-preserved
loop-agent-preserved g c =
    pairs_more text_of _ _ _ c.loop-agent.more _ _ _ _ c.in-Some.agent.now.name c.in-Some.bag.now
    (ap (map (λ (x : AgentType). x.name)) c.in-Some.ensures.steps.0) c.in-Some.ensures.steps.1 c.in_ok-push_comma.ensures
    (c.in_ok-push_bag.ensures
    ∙ ap₂ (λ name rows. c.push_comma.new.bytes.items ++ bag_text name rows) c.as_str.ensures c.rows.ensures.rows)
    ∙ c.loop-agent.invariant

pub returns : goal.returns
returns g c =
    pairs_all (map text_of) c.args.bytes.now.items c.loop-agent.bytes.items c.loop-agent.more _ _
    (bag_texts (map (λ (x : AgentType). x.name) c.args.agents.now) c.args.bags.now) refl
    (mapped_ended (λ (x : AgentType). x.name) _ _
    (either_empty_from_Zip c.loop-agent.agent-iterator c.next.new.self _ c.in-None.is c.next.ensures.steps))
    c.loop-agent.invariant
