-- The object of the name and the rows ends.
use Rattle.std.proofs.Common.{◌++◌, ◌∷◌, List, codes, sym, ap, ap₂, ◌∙◌}
use Rattle.json.specs.Token.{Token, begin_object, key, string}
use Rattle.json.specs.Tree.{json_tokens}
use Rattle.flame_tokens.specs.BagTrees.{rows_tree}
use Rattle.flame_tokens.proofs.TokenLists.{named_closed}
use Rattle.flame_tokens.proofs.bags.bag.Goals as goal

pub returns-clause-tokens : goal.returns-clause-tokens
returns-clause-tokens c =
    let tree = rows_tree c.in_ok-rows.rows.items in
    c.in_ok-opens.ensures
    ∙ ap (λ (ts : List Token). begin_object ∷ ts)
    (c.in_ok-is_called.ensures
    ∙ ap₂ (λ name (ts : List Token). key (codes "name") ∷ string name ∷ ts) c.as_str.ensures
    (c.in_ok-passes.ensures
    ∙ ap (λ (ts : List Token). key (codes "rows") ∷ ts)
    (c.in_ok-rows.ensures.tokens ∙ ap (λ (ts : List Token). json_tokens tree ++ ts) c.in_ok-closes.ensures)))
    ∙ sym (named_closed c.args.kind.now.name (codes "rows") tree c.closes.new.reader)
