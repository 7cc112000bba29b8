-- What was read is the tree of an agent of the type that has the name.
use Rattle.std.proofs.Common.{◌∷◌, List, codes, sym, ap, ap₂, ◌∙◌, arith}
use Rattle.std.proofs.lemmas.Option.{slice_get_within}
use Rattle.json.specs.Token.{Token, begin_object, key, string}
use Rattle.flame_tokens.specs.MemberTrees.{memory_tree}
use Rattle.flame_tokens.proofs.TokenLists.{named_closed}
use Rattle.flame_tokens.proofs.agents.add_agent.Goals as goal

pub add_row-requires : goal.add_row-requires
add_row-requires c =
    let found = c.in_ok-number in
    let named = c.in_ok-number.ensures in
    omega (
      arith,
      slice_get_within c.args.types.now found.number found.kind.now named.stands,
      c.requires,
    )

pub returns : goal.returns
returns c =
    let found = c.in_ok-number in
    let named = c.in_ok-number.ensures in
    let row = c.in_ok-row.row in
    record {
      listed = record { number = found.number; type = found.kind.now; row = row };
      tokens =
          ap (λ (ts : List Token). begin_object ∷ ts)
          (c.in_ok-named.ensures
          ∙ ap₂ (λ name (ts : List Token). key (codes "name") ∷ string name ∷ ts) (sym named.named)
          c.in_ok-row.ensures.tokens)
          ∙ sym
          (named_closed found.kind.now.name (codes "memory") (memory_tree found.kind.now.memory row)
          c.agent.new.reader);
      known = record { stands = named.stands; wide = c.in_ok-row.ensures.wide };
      dealt = c.in_ok-add_row.ensures;
    }
