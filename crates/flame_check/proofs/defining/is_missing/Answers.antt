-- Nothing is found exactly where none passes.
use Rattle.std.proofs.Common.{◌≡◌, ◌∙◌, ap, sym, codes, false}
use Rattle.std.specs.Prelude.{not, ◌&&◌, is_some}
use Rattle.std.specs.List.{list_any}
use Rattle.std.specs.Str.{bytes_eq}
use Rattle.flame_rows.proofs.Truths.{is_some-option_map}
use Rattle.flame_spec.specs.Definitions.{definitions, is_for, is_idle}
use Rattle.flame_lookup.specs.WordsFound.{definition_found}
use Rattle.flame_check.proofs.Members.{is_some-find}
use Rattle.flame_check.proofs.Booleans.{not_turned}
use Rattle.flame_check.proofs.defining.is_missing.Goals as goal

pub returns : goal.returns
returns c =
    let function = c.args.function.now in
    let ds = definitions c.args.tables.now.units in
    let busy : is_idle function ≡ false =
    ap (λ text. bytes_eq text (codes "idle")) (sym c.as_str.ensures) ∙ sym c.eq.ensures ∙ c.if-eq.false in
    let any : is_some c.defined.result ≡ list_any (is_for function) ds =
    sym (is_some-option_map definition_found c.defined.result)
    ∙ ap is_some c.defined.ensures
    ∙ is_some-find (is_for function) ds in
    not_turned (list_any (is_for function) ds) c.is_none.result (sym any ∙ c.is_none.ensures)
    ∙ sym (ap (λ b. not b && not (list_any (is_for function) ds)) busy)
