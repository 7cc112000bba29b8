use mir.Syntax.{w32}
use mir.Val.{SFits, to_z}
use Rattle.std.proofs.Common.{arith, ◌≡◌, ◌+◌, ◌-◌, sym, ◌∙◌, ap, take, rules}
use Rattle.std.specs.Prelude.{Err}
use Rattle.std.proofs.lemmas.Int.{to_z-of_z}
use Rattle.std.proofs.lemmas.Result.{err_from_is_err_and}
use Rattle.flame_meaning.specs.Expressions.{on_value, signs_value}
use Rattle.flame_sense.proofs.Signs.{signs_more}
use Rattle.flame_sense.proofs.expression.signs_value.Goals as goal

pub loop-at-preserved : goal.loop-at-preserved
loop-at-preserved c =
    let back : c.loop-at.at - 1 + 1 ≡ c.loop-at.at = omega arith in
    let f : SFits w32 c.in_ok-outer.outer = search rules in
    record {
      within = omega arith;
      value =
          c.loop-at.invariant.value
          ∙ ap (λ n. signs_value (take n c.args.signs.now) (to_z w32 c.loop-at.outer-bits)) (sym back)
          ∙ signs_more c.args.signs.now (c.loop-at.at - 1) _ (to_z w32 c.loop-at.outer-bits) (omega arith)
          ∙ ap (λ r. on_value r (signs_value (take (c.loop-at.at - 1) c.args.signs.now))) (sym c.in_ok-outer.ensures)
          ∙ ap (signs_value (take (c.loop-at.at - 1) c.args.signs.now)) (sym (to_z-of_z w32 c.in_ok-outer.outer f));
    }

pub returns-in_err-outer : goal.returns-in_err-outer
returns-in_err-outer c =
    let back : c.loop-at.at - 1 + 1 ≡ c.loop-at.at = omega arith in
    let e = err_from_is_err_and c.from_residual.result c.from_residual.ensures.1 in
    e.1 ∙ ap Err e.2 ∙ sym (
    c.loop-at.invariant.value
    ∙ ap (λ n. signs_value (take n c.args.signs.now) (to_z w32 c.loop-at.outer-bits)) (sym back)
    ∙ signs_more c.args.signs.now (c.loop-at.at - 1) _ (to_z w32 c.loop-at.outer-bits) (omega arith)
    ∙ ap (λ r. on_value r (signs_value (take (c.loop-at.at - 1) c.args.signs.now))) (sym c.in_err-outer.ensures))
    ∙ ap (signs_value c.args.signs.now) (to_z-of_z w32 c.args.value c.ranges.value)
