use Rattle.std.proofs.Common.{◌≡◌, ◌+◌, ◌-◌, ◌<◌, ◌++◌, ◌∙◌, length, drop, get_or, pos, sym, ap, ap₂, arith, w32, SFits, rules}
use Rattle.std.specs.Fmt.{signed_decimal}
use Rattle.std.proofs.lemmas.Int.{to_z-of_z}
use Rattle.std.proofs.lemmas.List.{at_drop_more, get_or_default}
use Rattle.flame_popfile.specs.RowTexts.{numbers_text}
use Rattle.flame_popfile.specs.CommaTexts.{comma_where, has_some}
use Rattle.flame_popfile.specs.TailTexts.{held}
use Rattle.flame_popfile.proofs.TailLists.{texts_before}
use Rattle.flame_popfile.proofs.values.put_numbers.Goals as goal

pub loop-left-preserved : goal.loop-left-preserved
loop-left-preserved c =
    let numbers = c.args.numbers.now in
    let left = c.loop-left.left in
    let kept = c.loop-left.invariant in
    let number = get_or numbers (left - 1) (pos 0) in
    let some : left - 1 < length numbers = omega (arith, c.loop-left-test.true, kept.within) in
    let next : left - 1 + 1 ≡ left = omega (arith, c.loop-left-test.true) in
    let fits : SFits w32 number = search rules in
    record {
      within = omega (arith, some);
      some = sym (at_drop_more has_some numbers (left - 1) (pos 0) some);
      written =
          c.in_ok-put_number.ensures
          ∙ ap (λ n. signed_decimal n ++ held c.put_comma.new.tail) (to_z-of_z w32 number fits)
          ∙ ap (λ l. signed_decimal number ++ l)
          (c.in_ok-put_comma.ensures ∙ ap₂ (λ b l. comma_where b ++ l) kept.some kept.written)
          ∙ ap
          (λ n. signed_decimal number
          ++ (comma_where (has_some (drop n numbers)) ++ (numbers_text (drop n numbers) ++ held c.args.tail.now)))
          (sym next)
          ∙ texts_before signed_decimal numbers (left - 1) number (held c.args.tail.now) some
          (get_or_default numbers (left - 1) (pos 0) number some);
    }
