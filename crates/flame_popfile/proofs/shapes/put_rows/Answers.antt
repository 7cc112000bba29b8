use Rattle.std.proofs.Common.{◌≡◌, ◌+◌, ◌-◌, ◌<◌, ◌||◌, ◌++◌, ◌∙◌, length, map, drop, true, sym, ap, ap₂, arith}
use Rattle.std.specs.Prelude.{nat_lt}
use Rattle.std.proofs.lemmas.Bool.{lt-ltb}
use Rattle.std.proofs.Math.Bool.{or-false}
use mathlib.Core.Bool.{or-true}
use Rattle.flame_popfile.specs.CommaTexts.{comma_where, behind}
use Rattle.flame_popfile.specs.TailTexts.{held}
use Rattle.flame_popfile.specs.ShapeTexts.{shape_text}
use Rattle.flame_popfile.proofs.TailLists.{row_before}
use Rattle.flame_popfile.proofs.shapes.put_rows.Goals as goal

pub loop-left-preserved : goal.loop-left-preserved
loop-left-preserved c =
    let rows = c.args.rows.now in
    let left = c.loop-left.left in
    let more = c.args.more in
    let text = shape_text c.args.shape.now in
    let after = held c.args.tail.now in
    let kept = c.loop-left.invariant in
    let row = c.index-rows-left.result in
    let some : left - 1 < length rows = omega (arith, c.loop-left-test.true, kept.within) in
    let next : left - 1 + 1 ≡ left = omega (arith, c.loop-left-test.true) in
    let begun : more || nat_lt 0 left ≡ true =
    ap (λ b. more || b) (lt-ltb 0 left c.loop-left-test.true) ∙ or-true more in
    record {
      within = omega (arith, some);
      written =
          c.in_ok-put_comma.ensures
          ∙ ap (λ b. comma_where b ++ held c.put_row.new.tail) c.has_before.ensures
          ∙ ap (λ l. comma_where (more || nat_lt 0 (left - 1)) ++ l)
          (c.in_ok-put_row.ensures
          ∙ ap (λ row. text row ++ held c.loop-left.tail) c.values.ensures
          ∙ ap (λ l. text row ++ l)
          (kept.written ∙ ap₂ (λ b n. behind b (map text (drop n rows)) ++ after) begun (sym next)))
          ∙ row_before text (more || nat_lt 0 (left - 1)) rows (left - 1) row after some c.index-rows-left.is;
    }

pub returns : goal.returns
returns c =
    let rows = c.args.rows.now in
    let more = c.args.more in
    let text = shape_text c.args.shape.now in
    let after = held c.args.tail.now in
    let none : c.loop-left.left ≡ 0 = omega (arith, c.loop-left-test.false) in
    c.loop-left.invariant.written
    ∙ ap (λ n. behind (more || nat_lt 0 n) (map text (drop n rows)) ++ after) none
    ∙ ap (λ b. behind b (map text rows) ++ after) (or-false more)
