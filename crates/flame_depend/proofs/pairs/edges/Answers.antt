-- The lists are those of the model.
use Rattle.std.proofs.Common.{◌≡◌, ℕ, List, length, map, ap, sym, ◌∙◌, subst, arith}
use Rattle.std.proofs.lemmas.List.{length-map}
use Rattle.flame_spec.specs.declared.models.AgentType.{AgentType}
use Rattle.flame_spec.specs.Functions.{Place, functions}
use Rattle.flame_spec.specs.Before.{function_count}
use Rattle.flame_spec.proofs.Counts.{few}
use Rattle.flame_depend.specs.PlacedFunctions.{shown}
use Rattle.flame_graph.specs.Graph.{follows, AreAscending}
use Rattle.flame_depend.specs.Edges.{edges_below}
use Rattle.flame_depend.proofs.Following.{follows_model, ascending_model, model_successors, of_types}
use Rattle.flame_depend.proofs.pairs.edges.Goals as goal

pub link_all-requires : goal.link_all-requires
link_all-requires c =
    let ps = map shown c.deref.result.now in
    let same : ps ≡ functions c.args.model.now = ap (map shown) c.deref.ensures.value ∙ c.in_ok-places.ensures in
    record {
      few = omega (arith, length-map c.deref.result.now shown, ap (length {A = Place}) same, few (functions c.args.model.now) c.requires);
      within = of_types c.args.model.now ps (length c.items.result.now) same (ap (length {A = AgentType}) c.items.ensures);
    }

pub flatten-requires : goal.flatten-requires
flatten-requires c =
    let ps = map shown c.deref.result.now in
    let same : ps ≡ functions c.args.model.now = ap (map shown) c.deref.ensures.value ∙ c.in_ok-places.ensures in
    let lists = model_successors c.args.model.now ps (length c.deref.result.now) c.in_ok-lists.lists.items same (sym (length-map c.deref.result.now shown)) c.in_ok-lists.ensures in
    let P : List (List ℕ) → Type 0 = AreAscending in
    record {
      few = omega (arith, c.deref-2.ensures.len, lists.len, few (functions c.args.model.now) c.requires);
      ascending = subst P (sym c.deref-2.ensures.value) (ascending_model c.args.model.now c.in_ok-lists.lists.items lists);
    }

pub returns : goal.returns
returns c =
    let ps = map shown c.deref.result.now in
    let model = c.args.model.now in
    let same : ps ≡ functions model = ap (map shown) c.deref.ensures.value ∙ c.in_ok-places.ensures in
    let lists = model_successors model ps (length c.deref.result.now) c.in_ok-lists.lists.items same (sym (length-map c.deref.result.now shown)) c.in_ok-lists.ensures in
    c.of.ensures ∙ c.in_ok-flatten.ensures
    ∙ ap (λ ls. edges_below (length ls) (length ls) (follows ls)) c.deref-2.ensures.value
    ∙ ap (λ n. edges_below n n (follows c.in_ok-lists.lists.items)) lists.len
    ∙ ap (edges_below (function_count model) (function_count model)) (follows_model model c.in_ok-lists.lists.items lists)
