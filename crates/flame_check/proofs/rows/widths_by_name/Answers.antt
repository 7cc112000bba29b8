-- One message more in front.
use Rattle.std.proofs.Common.{◌≡◌, ◌<◌, ◌+◌, ◌-◌, ◌∙◌, ℕ, ap, sym, arith, length, drop, unwrap_or, string_bytes}
use Rattle.std.specs.HashMap.{get_by_text}
use Rattle.flame_spec.specs.Columns.{width}
use Rattle.flame_spec.specs.KnownNames.{variables_in}
use Rattle.flame_check.proofs.Named.{width_in_front}
use Rattle.flame_check.proofs.rows.widths_by_name.Goals as goal

pub loop-left-preserved : goal.loop-left-preserved
loop-left-preserved c =
    let messages = c.args.messages.now in
    let message = c.index-messages-left.result in
    let left : ℕ = c.loop-left.left in
    let same : left - 1 + 1 ≡ left = omega (arith, c.loop-left-test.true) in
    let within : left - 1 < length messages = omega (arith, c.loop-left.invariant.within, c.loop-left-test.true) in
    record {
      within = omega (arith, c.loop-left.invariant.within);
      found = λ name.
          ap (λ o. unwrap_or o 0) (c.in_ok-put.ensures name)
          ∙ width_in_front messages (left - 1) message (string_bytes c.in_ok-name.name) name c.in_ok-total.total
          (get_by_text c.loop-left.table name) within c.index-messages-left.is
          (c.in_ok-name.ensures.ok ∙ c.as_str.ensures)
          (c.in_ok-total.ensures ∙ ap width c.items.ensures)
          (c.loop-left.invariant.found name ∙ ap (λ n. width (variables_in (drop n messages) name)) (sym same));
    }
