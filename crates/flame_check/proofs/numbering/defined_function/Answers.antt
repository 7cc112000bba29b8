-- The C function that is found runs the function of the model.
use Rattle.std.proofs.Common.{◌∙◌, List, ap, subst, find, Option, Some}
use Rattle.std.specs.Prelude.{IfErr, slice_get}
use Rattle.std.proofs.lemmas.Option.{slice_get_within}
use Rattle.std.proofs.lemmas.Result.{IfOk-weaker}
use Rattle.flame_spec.specs.declared.faults.CheckFault.{CheckFault}
use Rattle.flame_spec.specs.declared.models.Model.{Model}
use Rattle.flame_spec.specs.Definitions.{definitions, is_for, is_idle}
use Rattle.flame_spec.specs.FirstFaults.{FailsFirst}
use Rattle.flame_spec.specs.Functions.{Place, functions}
use Rattle.flame_lookup.specs.Sources.{BodyPlace}
use Rattle.flame_lookup.specs.WordsFound.{definition_found, place_found}
use Rattle.flame_lookup.proofs.Places.{slice_get-type}
use Rattle.flame_body.specs.FunctionBodies.{widths_in}
use Rattle.flame_check.proofs.Bodies.{function_body_is, function_clean}
use Rattle.flame_check.proofs.Clean.{Runs}
use Rattle.flame_check.proofs.Booleans.{where_false, found_there}
use Rattle.flame_check.proofs.numbering.defined_function.Goals as goal

pub for_function-requires : goal.for_function-requires
for_function-requires c =
    slice_get_within (functions c.args.tables.now.model) c.args.number (place_found c.args.place.now) c.requires.place

pub of_function-requires : goal.of_function-requires
of_function-requires c =
    let place = place_found c.args.place.now in
    ap (λ (model : Model). slice_get model.agents place.agent) c.requires.rows
    ∙ slice_get-type c.args.tables.now.model.agents c.args.number place c.requires.place

pub returns-clause-stands : goal.returns-clause-stands
returns-clause-stands c =
    let sources = c.args.tables.now in
    let place = place_found c.args.place.now in
    let d = definition_found c.args.function.now in
    let found = find (is_for place.function) (definitions sources.units) in
    let runs : Runs sources.model sources.units c.args.number place d = record {
      there = c.requires.place;
      busy = where_false (is_idle place.function) found d c.requires.found;
      found = found_there (is_idle place.function) found d c.requires.found;
    } in
    let standing : Option Place → BodyPlace = λ runs. record { sources = sources; runs = runs; file = d.file } in
    let words = c.in_ok-words.ensures ∙ ap standing c.requires.place in
    let widths = c.in_ok-widths.ensures ∙ ap (λ (model : Model). widths_in model (Some place)) c.requires.rows in
    IfOk-weaker c.body.result _ _
    (λ body is. function_body_is sources.model sources.units c.args.number place d c.in_ok-words.words
    c.in_ok-widths.widths body c.requires.clean runs words widths is)
    c.body.ensures.stands

pub returns-clause-none : goal.returns-clause-none
returns-clause-none c =
    let sources = c.args.tables.now in
    let place = place_found c.args.place.now in
    let d = definition_found c.args.function.now in
    let found = find (is_for place.function) (definitions sources.units) in
    let runs : Runs sources.model sources.units c.args.number place d = record {
      there = c.requires.place;
      busy = where_false (is_idle place.function) found d c.requires.found;
      found = found_there (is_idle place.function) found d c.requires.found;
    } in
    let standing : Option Place → BodyPlace = λ runs. record { sources = sources; runs = runs; file = d.file } in
    let words = c.in_ok-words.ensures ∙ ap standing c.requires.place in
    let clean = function_clean sources.model sources.units c.args.number place d c.in_ok-words.words c.requires.clean runs words in
    let P : List CheckFault → Type 0 = λ faults. IfErr c.body.result (FailsFirst faults) in
    subst P clean c.body.ensures.first
