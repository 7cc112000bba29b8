-- Number by number.
use Rattle.std.proofs.Common.{◌≡◌, ◌∙◌, ap, sym, get_or, Some}
use Rattle.std.specs.Prelude.{slice_get}
use Rattle.std.specs.List.{flat_map}
use Rattle.std.proofs.lemmas.Option.{slice_get-get_or}
use Rattle.std.proofs.lemmas.Result.{err_from_is_err_and}
use Rattle.flame_spec.specs.CheckFaults.{body_faults, is_run_by}
use Rattle.flame_spec.specs.Definitions.{helpers}
use Rattle.flame_spec.specs.Functions.{functions}
use Rattle.flame_lookup.specs.WordsFound.{definition_found}
use Rattle.flame_check.proofs.Members.{number_within}
use Rattle.flame_check.proofs.Rests.{item_more, item_fails}
use Rattle.flame_check.proofs.Walks.{faults_by, faults_by_numbers}
use Rattle.flame_check.proofs.walking.clean_for_all.Goals as goal

pub loop-number-init : goal.loop-number-init
loop-number-init c =
    let d = definition_found c.args.function.now in
    faults_by_numbers c.args.tables.now d ∙ ap (flat_map (faults_by c.args.tables.now d)) (sym c.run_by-numbers.ensures)

pub clean_for-requires : goal.clean_for-requires
clean_for-requires c =
    let d = definition_found c.args.function.now in
    let numbers = c.run_by-numbers.result.now in
    let i = c.loop-number.number-index in
    let number = get_or numbers i 0 in
    let there : slice_get numbers i ≡ Some number = slice_get-get_or numbers i 0 c.loop-number-test.true in
    number_within (is_run_by d) (functions c.args.tables.now.model) i number
    (ap (λ l. slice_get l i) (sym c.run_by-numbers.ensures) ∙ there)

pub returns-in_err-clean_for-clause-first : goal.returns-in_err-clean_for-clause-first
returns-in_err-clean_for-clause-first c =
    let p = err_from_is_err_and c.from_residual.result c.from_residual.ensures.1 in
    let sources = c.args.tables.now in
    let d = definition_found c.args.function.now in
    rw (p.1, p.2)
    (item_fails (faults_by sources d) c.run_by-numbers.result.now c.loop-number.number-index 0
    (flat_map (body_faults sources.model (helpers sources.model sources.units) d) (functions sources.model)) _
    c.loop-number-test.true c.loop-number.invariant c.in_err-clean_for.ensures.first)

pub loop-number-preserved : goal.loop-number-preserved
loop-number-preserved c =
    let sources = c.args.tables.now in
    let d = definition_found c.args.function.now in
    item_more (faults_by sources d) c.run_by-numbers.result.now c.loop-number.number-index 0
    (flat_map (body_faults sources.model (helpers sources.model sources.units) d) (functions sources.model))
    c.loop-number-test.true c.loop-number.invariant c.in_ok-clean_for.ensures.clean
