-- The lists are those of the model.
use Rattle.std.proofs.Common.{◌≡◌, List, ◌<◌, length, map, ap, sym, ◌∙◌, subst}
use Rattle.std.specs.List.{All}
use Rattle.flame_spec.specs.declared.models.AgentType.{AgentType}
use Rattle.flame_spec.specs.States.{start_states}
use Rattle.flame_spec.specs.ModelOrder.{order, first_left}
use Rattle.flame_spec.specs.Layers.{layers}
use Rattle.flame_spec.proofs.Beginnings.{types_start}
use Rattle.flame_depend.specs.declared.starts.Found.{Found}
use Rattle.flame_depend.specs.Plans.{lone, starts_of, AreStarts}
use Rattle.flame_depend.proofs.Following.{ascending_model}
use Rattle.flame_depend.proofs.Planning.{at_model}
use Rattle.flame_depend.proofs.planner.plan_ordered.Goals as goal

pub layers-requires-clause-ascending : goal.layers-requires-clause-ascending
layers-requires-clause-ascending c = ascending_model c.args.model.now c.args.lists.now c.requires.lists

pub layers-requires-clause-order : goal.layers-requires-clause-order
layers-requires-clause-order c = c.deref.ensures.value ∙ c.requires.order ∙ sym (at_model order c.args.model.now c.args.lists.now c.requires.lists)

pub layers-requires-clause-whole : goal.layers-requires-clause-whole
layers-requires-clause-whole c = at_model first_left c.args.model.now c.args.lists.now c.requires.lists ∙ c.requires.acyclic

pub find_starts-requires-clause-some : goal.find_starts-requires-clause-some
find_starts-requires-clause-some c =
    let P : List AgentType → Type 0 = All (λ type. 0 < length (start_states type.functions)) in
    subst P (sym c.items.ensures) (types_start c.args.model.now c.requires.acyclic)

pub returns-in-Lone-clause-plan : goal.returns-in-Lone-clause-plan
returns-in-Lone-clause-plan c =
    let P : Found → Type 0 = AreStarts c.items.result.now in
    let starts : map lone c.in-Lone.starts.items ≡ map starts_of c.items.result.now = subst P c.in-Lone.is c.in_ok-fault.ensures in
    record {
      acyclic = c.requires.acyclic;
      order = c.of.ensures ∙ c.requires.order;
      layers = c.of-in-Lone.ensures ∙ c.in_ok-layers.ensures ∙ at_model layers c.args.model.now c.args.lists.now c.requires.lists;
      starts = ap (map lone) c.of-in-Lone-2.ensures ∙ starts ∙ ap (map starts_of) c.items.ensures;
    }
