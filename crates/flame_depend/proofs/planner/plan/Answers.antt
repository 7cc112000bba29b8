-- The lists are those of the model, and who waits at the end is left over.
use Rattle.std.proofs.Common.{◌≡◌, ℕ, List, Some, None, length, map, ap, sym, ◌∙◌, subst, arith}
use Rattle.std.specs.Prelude.{is_some}
use Rattle.std.proofs.lemmas.List.{length-map}
use Rattle.flame_spec.specs.declared.models.Model.{Model}
use Rattle.flame_spec.specs.declared.models.AgentType.{AgentType}
use Rattle.flame_spec.specs.Functions.{functions}
use Rattle.flame_spec.specs.Before.{before, before_among, function_count}
use Rattle.flame_spec.specs.ModelOrder.{order, first_left, cycle, begun_with_least}
use Rattle.flame_spec.proofs.FirstBelow.{first_is_first}
use Rattle.flame_graph.proofs.Walking.{left_is}
use Rattle.flame_depend.specs.declared.place.Placed.{Placed}
use Rattle.flame_depend.specs.PlacedFunctions.{shown}
use Rattle.flame_graph.specs.Graph.{AreSuccessors, follows, AreWaiting, waits}
use Rattle.flame_depend.proofs.Following.{ascending_model, model_successors, of_types}
use Rattle.flame_depend.proofs.Planning.{at_model, cycle_is}
use Rattle.flame_depend.proofs.planner.plan.Goals as goal

-- the lists of the code are those of the model
linked : (model : Model) (placed places : List Placed) (lists links : List (List ℕ)) → places ≡ placed → map shown placed ≡ functions model → AreSuccessors (length places) (before_among (map shown places)) lists → links ≡ lists → AreSuccessors (function_count model) (before model) links
linked model placed places lists links e same a l =
    let P : List (List ℕ) → Type 0 = AreSuccessors (function_count model) (before model) in
    subst P (sym l) (model_successors model (map shown places) (length places) lists (ap (map shown) e ∙ same) (sym (length-map places shown)) a)

pub link_all-requires-clause-within : goal.link_all-requires-clause-within
link_all-requires-clause-within c =
    of_types c.args.model.now (map shown c.deref.result.now) (length c.items.result.now) (ap (map shown) c.deref.ensures.value ∙ c.in_ok-places.ensures) (ap (length {A = AgentType}) c.items.ensures)

pub put_in_order-requires-clause-ascending : goal.put_in_order-requires-clause-ascending
put_in_order-requires-clause-ascending c =
    ascending_model c.args.model.now c.as_slice-links.result.now (linked c.args.model.now c.in_ok-places.places.items c.deref.result.now c.in_ok-lists.lists.items c.as_slice-links.result.now c.deref.ensures.value c.in_ok-places.ensures c.in_ok-lists.ensures c.as_slice-links.ensures.value)

pub walk_back-requires-clause-ascending : goal.walk_back-requires-clause-ascending
walk_back-requires-clause-ascending c =
    ascending_model c.args.model.now c.as_slice-links.result.now (linked c.args.model.now c.in_ok-places.places.items c.deref.result.now c.in_ok-lists.lists.items c.as_slice-links.result.now c.deref.ensures.value c.in_ok-places.ensures c.in_ok-lists.ensures c.as_slice-links.ensures.value)

pub walk_back-requires-clause-start : goal.walk_back-requires-clause-start
walk_back-requires-clause-start c =
    let found = first_is_first (waits c.deref-2.result.now) (length c.deref-2.result.now) c.in-Some.start (sym c.in-Some.ensures) in
    omega (arith, found.below, c.deref-2.ensures.len, c.in_ok-ordered.ensures.waiting.len)

pub walk_back-requires-clause-waiting : goal.walk_back-requires-clause-waiting
walk_back-requires-clause-waiting c =
    let n = length c.as_slice-links.result.now in
    let before = follows c.as_slice-links.result.now in
    let P : List ℕ → Type 0 = AreWaiting n n before (order n before) in
    subst P (sym c.deref-in-Some.ensures.value) c.in_ok-ordered.ensures.waiting

pub returns-in-Some-clause-fault : goal.returns-in-Some-clause-fault
returns-in-Some-clause-fault c =
    let model = c.args.model.now in
    let links = c.as_slice-links.result.now in
    let n = length links in
    let before = follows links in
    let start = c.in-Some.start in
    let a = linked model c.in_ok-places.places.items c.deref.result.now c.in_ok-lists.lists.items links c.deref.ensures.value c.in_ok-places.ensures c.in_ok-lists.ensures c.as_slice-links.ensures.value in
    let left = left_is n before c.in_ok-ordered.ordered.waiting.items c.deref-2.result.now (Some start) c.in_ok-ordered.ensures.left c.deref-2.ensures.value c.in-Some.ensures in (
      ap is_some (sym (at_model first_left model links a) ∙ left),
      c.of.ensures ∙ c.begin_with_least.ensures
          ∙ ap begun_with_least c.in_ok-functions-in-Some.ensures
          ∙ cycle_is n before start left
          ∙ at_model cycle model links a,
    )

pub plan_ordered-requires-clause-lists : goal.plan_ordered-requires-clause-lists
plan_ordered-requires-clause-lists c = linked c.args.model.now c.in_ok-places.places.items c.deref.result.now c.in_ok-lists.lists.items c.as_slice-links.result.now c.deref.ensures.value c.in_ok-places.ensures c.in_ok-lists.ensures c.as_slice-links.ensures.value

pub plan_ordered-requires-clause-order : goal.plan_ordered-requires-clause-order
plan_ordered-requires-clause-order c =
    let a = linked c.args.model.now c.in_ok-places.places.items c.deref.result.now c.in_ok-lists.lists.items c.as_slice-links.result.now c.deref.ensures.value c.in_ok-places.ensures c.in_ok-lists.ensures c.as_slice-links.ensures.value in
    c.in_ok-ordered.ensures.order ∙ at_model order c.args.model.now c.as_slice-links.result.now a

pub plan_ordered-requires-clause-acyclic : goal.plan_ordered-requires-clause-acyclic
plan_ordered-requires-clause-acyclic c =
    let links = c.as_slice-links.result.now in
    let a = linked c.args.model.now c.in_ok-places.places.items c.deref.result.now c.in_ok-lists.lists.items links c.deref.ensures.value c.in_ok-places.ensures c.in_ok-lists.ensures c.as_slice-links.ensures.value in
    sym (at_model first_left c.args.model.now links a)
    ∙ left_is (length links) (follows links) c.in_ok-ordered.ordered.waiting.items c.deref-2.result.now None c.in_ok-ordered.ensures.left c.deref-2.ensures.value c.in-None.ensures
