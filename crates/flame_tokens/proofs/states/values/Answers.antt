-- A constant more.
use Rattle.std.proofs.Common.{◌≡◌, ◌+◌, ◌++◌, ◌∷◌, List, [], true, take, subst, rules, w32, SFits, sym, ap, ap₂, ◌∙◌}
use Rattle.std.specs.Prelude.{ℤ}
use Rattle.std.proofs.lemmas.Int.{to_z-of_z}
use Rattle.std.proofs.lemmas.List.Elements.{All-push}
use Rattle.json.specs.Token.{Token, key}
use Rattle.flame_ops.specs.Integers.{is_int}
use Rattle.flame_tokens.specs.MemberTrees.{keyed}
use Rattle.flame_tokens.specs.PopulationTrees.{constant_trees, AreConstants}
use Rattle.flame_tokens.proofs.MoreConstants.{more_constants, counted_more}
use Rattle.flame_tokens.proofs.states.values.Goals as goal

pub loop-name-preserved : goal.loop-name-preserved
loop-name-preserved c =
    let names = c.args.names.now in
    let i = c.loop-name.name-index in
    let name = c.name-item.result in
    let values = c.loop-name.values.items in
    let value = c.in_ok-value.value in
    let rest = c.number.new.reader in
    let so_far = keyed (constant_trees (take i names) values) in
    let fits : SFits w32 value = search rules in
    let added : c.add.new.row.items ≡ values ++ value ∷ [] =
    c.in_ok-add.ensures ∙ ap (λ (z : ℤ). values ++ z ∷ []) (to_z-of_z w32 value fits) in
    record {
      tokens =
          c.loop-name.invariant.tokens
          ∙ ap (λ (ts : List Token). so_far ++ ts)
          (c.in_ok-passes.ensures
          ∙ ap₂ (λ name (ts : List Token). key name ∷ ts) c.as_str.ensures c.in_ok-value.ensures.tokens)
          ∙ sym
          (more_constants names i name values value rest c.loop-name-test.true c.name-item.is
          c.loop-name.invariant.constants.count)
          ∙ ap (λ (l : List ℤ). keyed (constant_trees (take (i + 1) names) l) ++ rest) (sym added);
      constants =
          subst (AreConstants (take (i + 1) names)) (sym added)
          (record {
            count = counted_more names i values value c.loop-name-test.true c.loop-name.invariant.constants.count;
            ints =
                All-push (λ (number : ℤ). is_int number ≡ true) values value c.loop-name.invariant.constants.ints
                c.in_ok-value.ensures.int;
          });
    }
