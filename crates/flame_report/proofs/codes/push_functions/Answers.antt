use Rattle.std.proofs.Common.{◌≡◌, ◌++◌, ◌+◌, Some, ap, arith, drop, map, refl, string_bytes, sym, ◌∙◌}
use Rattle.std.specs.Prelude.{slice_get}
use Rattle.flame_spec.specs.Lists.{each_from}
use Rattle.flame_lookup.specs.WordsFound.{place_found}
use Rattle.flame_program.proofs.Zips.{mapped-there}
use Rattle.flame_report.specs.CodeTexts.{function_listing}
use Rattle.flame_report.proofs.ListedNext.{listed-next}
use Rattle.flame_report.proofs.codes.push_functions.Goals as goal

pub loop-i-preserved : goal.loop-i-preserved
loop-i-preserved c =
    let f = function_listing c.args.program.now in
    let places = map place_found c.args.places.now in
    let i = c.loop-i.i in
    let place = c.index-places-i.result in
    let there : slice_get places i ≡ Some (place_found place) =
    mapped-there place_found c.args.places.now places i place refl (omega (arith, c.loop-i-test.true)) c.index-places-i.is in
    let text : string_bytes c.push_function_code.new.text ≡ string_bytes c.loop-i.text ++ f i (place_found place) =
    c.in_ok-push_function_code.ensures ∙ ap (λ n. string_bytes c.loop-i.text ++ f n (place_found place)) c.in_ok-number.ensures in
    c.loop-i.invariant
    ∙ listed-next f (string_bytes c.loop-i.text) places i (place_found place) there
    ∙ ap (λ t. t ++ each_from f (i + 1) (drop (i + 1) places)) (sym text)
