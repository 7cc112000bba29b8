use Rattle.std.proofs.Common.{◌≡◌, ◌+◌, ◌-◌, ◌∙◌, ap, sym, arith, take}
use Rattle.flame_compile.specs.Pieces.{row, written}
use Rattle.flame_compile.specs.Emit.{signs_code}
use Rattle.flame_compile.proofs.Writing.{written_none, signs_more}
use Rattle.flame_compile.proofs.expression.write_signs.Goals as goal

pub loop-at-preserved : goal.loop-at-preserved
loop-at-preserved c =
    let signs = c.args.signs.now in
    let back : c.loop-at.at - 1 + 1 ≡ c.loop-at.at = omega arith in
    record {
      within = omega (arith, c.loop-at.invariant.within);
      rest =
          ap (written (row (signs_code (take (c.loop-at.at - 1) signs)))) c.in_ok-write_sign.ensures
          ∙ sym (signs_more signs (c.loop-at.at - 1) _ c.loop-at.out.items (omega (arith, c.loop-at.invariant.within)))
          ∙ ap (λ n. written (row (signs_code (take n signs))) c.loop-at.out.items) back
          ∙ c.loop-at.invariant.rest;
    }

pub returns : goal.returns
returns c =
    let none : c.loop-at.at ≡ 0 = omega arith in
    written_none c.loop-at.out.items
    ∙ sym (ap (λ n. written (row (signs_code (take n c.args.signs.now))) c.loop-at.out.items) none)
    ∙ c.loop-at.invariant.rest
