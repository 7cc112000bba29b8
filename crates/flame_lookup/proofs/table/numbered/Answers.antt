use Rattle.std.proofs.Common.{◌≡◌, ◌<◌, ◌+◌, ◌-◌, ◌∙◌, ℕ, sym, ap, arith, cond, Some, length, drop, option_map, string_bytes, refl}
use Rattle.std.specs.HashMap.{get_by_text}
use Rattle.std.specs.Str.{bytes_eq}
use Rattle.flame_rows.proofs.Truths.{option_map-cond}
use Rattle.flame_spec.specs.Lists.{numbered_from}
use Rattle.flame_spec.proofs.Numbered.{numbered_from-before}
use Rattle.flame_lookup.specs.WordsFound.{item_found}
use Rattle.flame_lookup.specs.WrittenForms.{written}
use Rattle.flame_lookup.proofs.table.numbered.Goals as goal

pub loop-left-preserved : goal.loop-left-preserved
loop-left-preserved g c =
    let items = c.args.items.now in
    let item = c.index-items-left.result in
    let left : ℕ = c.loop-left.left in
    let name = g.T.Named.name in
    let same : left - 1 + 1 ≡ left = omega arith in
    let within : left - 1 < length items = omega (arith, c.loop-left.invariant.within) in
    record {
      within = omega (arith, c.loop-left.invariant.within);
      found = λ word.
          let rest = get_by_text c.loop-left.table word in
          ap (option_map item_found) (c.in_ok-put.ensures word)
          ∙ (sym (option_map-cond item_found (bytes_eq (string_bytes c.in_ok-word.word) word) _ (option_map item_found rest) rest refl))
          ∙ ap (λ text. cond (bytes_eq text word) (Some (c.in_ok-at.at, item)) (option_map item_found rest))
          (c.in_ok-word.ensures ∙ ap (written c.args.form) c.name.ensures)
          ∙ ap (λ n. cond (bytes_eq (written c.args.form (name item)) word) (Some (n, item)) (option_map item_found rest)) c.in_ok-at.ensures
          ∙ numbered_from-before (λ other. bytes_eq (written c.args.form (name other)) word) items (left - 1) item
          (option_map item_found rest) within c.index-items-left.is
          (c.loop-left.invariant.found word
          ∙ ap (λ n. numbered_from (λ other. bytes_eq (written c.args.form (name other)) word) n (drop n items)) (sym same));
    }
