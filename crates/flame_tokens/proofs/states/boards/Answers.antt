-- The boards stand behind their key.
use Rattle.std.proofs.Common.{◌≡◌, ◌++◌, ◌∷◌, List, Some, codes, rules, sym, ap, ap₂, ◌∙◌}
use Rattle.json.specs.Token.{Token, end_object, key}
use Rattle.json.specs.Tree.{json_tokens}
use Rattle.flame_tokens.proofs.TokenLists.{keyed_one}
use Rattle.flame_tokens.proofs.states.boards.Goals as goal

pub returns-in_ok-closes-in-Key : goal.returns-in_ok-closes-in-Key
returns-in_ok-closes-in-Key c =
    let passed = c.in_ok-pass-in-Key.ensures in
    let name = c.in-Key.name.now in
    let first : c.args.reader.now ≡ key name ∷ c.next.new.self = search rules in
    let named : name ≡ codes "boards" = search rules in
    record {
      boards = Some passed.tree;
      tokens =
          first
          ∙ ap₂ (λ name (ts : List Token). key name ∷ ts) named
          (passed.tokens ∙ ap (λ (ts : List Token). json_tokens passed.tree ++ ts) c.in_ok-closes-in-Key.ensures)
          ∙ sym (keyed_one (codes "boards", passed.tree) (end_object ∷ c.closes.new.reader));
      passed = passed.is;
    }
