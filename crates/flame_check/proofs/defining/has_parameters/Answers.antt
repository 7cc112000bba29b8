-- The list of parameters is not empty, and that of numbers is not.
use Rattle.std.proofs.Common.{◌≡◌, ◌∙◌, ap, sym, length, true}
use Rattle.std.specs.Prelude.{not, ◌&&◌, ◌==◌}
use Rattle.std.specs.List.{list_any}
use Rattle.flame_spec.specs.CheckFaults.{is_run_by}
use Rattle.flame_spec.specs.Definitions.{has_none}
use Rattle.flame_spec.specs.Functions.{functions}
use Rattle.flame_lookup.specs.WordsFound.{definition_found}
use Rattle.flame_lookup.proofs.Kept.{has_numbers}
use Rattle.flame_check.proofs.Booleans.{has_none_is}
use Rattle.flame_check.proofs.defining.has_parameters.Goals as goal

pub returns-then-not-is_empty : goal.returns-then-not-is_empty
returns-then-not-is_empty c =
    let d = definition_found c.args.function.now in
    let places = functions c.args.tables.now.model in
    let same : has_none d.parameters ≡ c.is_empty.result =
    has_none_is d.parameters ∙ ap (λ l. length l == 0) (sym c.items.ensures) ∙ sym c.is_empty.ensures in
    let some : not (has_none d.parameters) ≡ true = ap not (same ∙ c.if-not-is_empty.true) in
    ap not (c.is_empty-then-not-is_empty.ensures ∙ ap (λ l. length l == 0) c.run_by.ensures)
    ∙ has_numbers (is_run_by d) 0 places
    ∙ sym (ap (λ b. b && list_any (is_run_by d) places) some)
