use Rattle.std.proofs.Common.{◌≡◌, ◌++◌, ◌+◌, Some, ap, arith, drop, map, refl, string_bytes, sym, ◌∙◌}
use Rattle.std.specs.Prelude.{slice_get}
use Rattle.flame_spec.specs.Lists.{each_from}
use Rattle.flame_lookup.specs.WordsFound.{definition_found}
use Rattle.flame_program.proofs.Zips.{mapped-there}
use Rattle.flame_report.specs.CodeTexts.{helper_listing}
use Rattle.flame_report.proofs.ListedNext.{listed-next}
use Rattle.flame_report.proofs.codes.push_helpers.Goals as goal

pub loop-i-preserved : goal.loop-i-preserved
loop-i-preserved c =
    let f = helper_listing c.args.program.now in
    let found = map definition_found c.args.found.now in
    let i = c.loop-i.i in
    let helper = c.index-found-i.result in
    let there : slice_get found i ≡ Some (definition_found helper) =
    mapped-there definition_found c.args.found.now found i helper refl (omega (arith, c.loop-i-test.true)) c.index-found-i.is in
    let text : string_bytes c.push_helper_code.new.text ≡ string_bytes c.loop-i.text ++ f i (definition_found helper) =
    c.in_ok-push_helper_code.ensures ∙ ap (λ n. string_bytes c.loop-i.text ++ f n (definition_found helper)) c.in_ok-number.ensures in
    c.loop-i.invariant
    ∙ listed-next f (string_bytes c.loop-i.text) found i (definition_found helper) there
    ∙ ap (λ t. t ++ each_from f (i + 1) (drop (i + 1) found)) (sym text)
