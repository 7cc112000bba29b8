use Rattle.std.proofs.Common.{◌≡◌, ◌<◌, ◌+◌, ◌-◌, ◌∙◌, ℕ, sym, ap, arith, cond, Some, length, drop, map, option_map, string_bytes, refl}
use Rattle.std.specs.HashMap.{get_by_text}
use Rattle.std.specs.Str.{bytes_eq}
use Rattle.flame_rows.proofs.Truths.{option_map-cond}
use Rattle.flame_spec.specs.Lists.{numbered_from}
use Rattle.flame_lookup.specs.WordsFound.{helper_found, definition_found}
use Rattle.flame_lookup.proofs.Backwards.{numbered_before_seen}
use Rattle.flame_lookup.proofs.table.c_function_table.Goals as goal

pub loop-left-preserved : goal.loop-left-preserved
loop-left-preserved c =
    let functions = c.args.functions.now in
    let function = c.index-functions-left.result in
    let defined = definition_found function in
    let left : ℕ = c.loop-left.left in
    let same : left - 1 + 1 ≡ left = omega arith in
    let within : left - 1 < length functions = omega (arith, c.loop-left.invariant.within) in
    record {
      within = omega (arith, c.loop-left.invariant.within);
      found = λ word.
          let rest = get_by_text c.loop-left.table word in
          ap (option_map helper_found) (c.in_ok-put.ensures word)
          ∙ (sym (option_map-cond helper_found (bytes_eq (string_bytes c.in_ok-word.word) word) _ (option_map helper_found rest) rest refl))
          ∙ ap (λ text. cond (bytes_eq text word) (Some (c.in_ok-number.number, defined)) (option_map helper_found rest))
          (c.in_ok-word.ensures.ok ∙ c.as_str.ensures)
          ∙ ap (λ n. cond (bytes_eq defined.name word) (Some (n, defined)) (option_map helper_found rest)) c.in_ok-number.ensures
          ∙ numbered_before_seen definition_found (λ d. bytes_eq d.name word) functions (left - 1) function
          (option_map helper_found rest) within c.index-functions-left.is
          (c.loop-left.invariant.found word
          ∙ ap (λ n. numbered_from (λ d. bytes_eq d.name word) n (map definition_found (drop n functions))) (sym same));
    }
