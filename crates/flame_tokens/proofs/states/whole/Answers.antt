-- The braces of the whole.
use Rattle.std.proofs.Common.{◌++◌, ◌∷◌, List, codes, ap, ◌∙◌}
use Rattle.std.specs.Prelude.{option_map}
use Rattle.json.specs.Token.{Token, begin_object, end_object, key}
use Rattle.json.specs.Tree.{json_tokens}
use Rattle.flame_tokens.specs.MemberTrees.{object_tree}
use Rattle.flame_tokens.specs.PopulationTrees.{states_trees}
use Rattle.flame_tokens.proofs.states.whole.Goals as goal

pub returns-in-None : goal.returns-in-None
returns-in-None c =
    let found = c.in_ok-found.found in
    let states = c.in_ok-found.ensures in
    let tree =
    object_tree
    (states_trees c.args.model.now.constants states.contents found.itno
    (option_map (λ values. values.items) found.constants)) in
    record {
      contents = states.contents;
      is_read =
          c.in_ok-opens.ensures
          ∙ ap (λ (ts : List Token). begin_object ∷ ts)
          (c.in_ok-passes.ensures
          ∙ ap (λ (ts : List Token). key (codes "states") ∷ ts)
          (c.in_ok-opens-2.ensures
          ∙ states.tokens
          ∙ ap (λ (ts : List Token). json_tokens tree ++ ts)
          (c.in_ok-closes.ensures
          ∙ ap (λ (ts : List Token). end_object ∷ ts) c.in-None.ensures.value.0)));
      are = states.are;
    }
