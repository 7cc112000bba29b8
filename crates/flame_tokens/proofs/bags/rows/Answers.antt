-- The list ends.
use Rattle.std.proofs.Common.{◌++◌, ◌∷◌, List, map, sym, ap, ◌∙◌}
use Rattle.json.specs.Token.{Token, begin_array}
use Rattle.json.proofs.Grammar.{closed_array}
use Rattle.flame_tokens.specs.NumberTrees.{row_tree, begun}
use Rattle.flame_tokens.proofs.TokenLists.{list_closed}
use Rattle.flame_tokens.proofs.bags.rows.Goals as goal

pub returns-then-take_end_array-clause-tokens : goal.returns-then-take_end_array-clause-tokens
returns-then-take_end_array-clause-tokens c =
    let trees = map row_tree c.loop-turn.rows.items in
    let new = c.take_end_array.new.self in
    c.loop-turn.invariant.tokens
    ∙ ap (λ (ts : List Token). begin_array ∷ (begun trees ++ ts))
    (closed_array c.loop-turn.reader new c.if-take_end_array.ensures)
    ∙ sym (list_closed trees new)
