use Rattle.std.proofs.Common.{◌≡◌, ◌∙◌, [], false, List, ap, length, map, refl, sym}
use Rattle.std.specs.Prelude.{ℤ}
use Rattle.std.proofs.lemmas.List.{length-map}
use Rattle.flame_spec.specs.declared.models.AgentType.{AgentType}
use Rattle.flame_spec.specs.declared.models.MessageType.{MessageType}
use Rattle.flame_spec.specs.declared.outcomes.Source.{Source}
use Rattle.flame_world.specs.AgentRuns.{births_of}
use Rattle.flame_world.specs.Fields.{begun, joined}
use Rattle.flame_field.specs.KeptPools.{pool_bags}
use Rattle.flame_field.proofs.Joining.{joined-nothing}
use Rattle.flame_field.proofs.Borne.{same_for_all}
use Rattle.flame_round.proofs.Lengths.{zip-long}
use Rattle.flame_round.proofs.opening.opened.Goals as goal

pub returns-clause-field : goal.returns-clause-field
returns-clause-field c =
    let model = c.args.program.now.model in
    let pools = c.in_ok-pools.pools in
    let pools_are = c.in_ok-pools.ensures.bags in
    let long : length pools.items ≡ length model.agents =
    sym (length-map pools.items pool_bags) ∙ ap length pools_are
    ∙ zip-long _ (λ ((type, bag) : AgentType × List (List ℤ)). begun type bag) model.agents c.args.agents c.requires in
    let none : List (List ℤ) = [] in
    let born =
    (λ i. joined (births_of (c.new.ensures.items i)) (map (λ own. none) pools.items))
    ∙ joined-nothing (λ own. none) (λ own. refl) (births_of []) (λ n. refl) pools.items
    ∙ same_for_all none pools.items model.agents long in
    let bags = c.in_ok-boards.ensures.bags
    ∙ ap (map (λ (message : MessageType). none)) (c.items.ensures ∙ ap (λ (s : Source). s.model.messages) c.source.ensures.same) in
    λ i. record { pools = pools_are i; born = born i; boards = bags i }

pub returns-clause-marks : goal.returns-clause-marks
returns-clause-marks c =
    c.in_ok-boards.ensures.marks
    ∙ ap (map (λ (message : MessageType). false)) (c.items.ensures ∙ ap (λ (s : Source). s.model.messages) c.source.ensures.same)
