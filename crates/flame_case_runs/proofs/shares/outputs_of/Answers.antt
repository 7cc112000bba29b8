use Rattle.std.proofs.Common.{◌∙◌, List, Option, ap, refl, sym}
use Rattle.std.specs.Prelude.{slice_get}
use Rattle.std.proofs.lemmas.Option.{slice_get_past, slice_get_read}
use Rattle.flame_spec.specs.Functions.{Place}
use Rattle.flame_route.specs.declared.routes.Route.{Route}
use Rattle.flame_meaning.specs.Outcomes.{outputs_at}
use Rattle.flame_case_runs.proofs.Routed.{outputs-there, nowhere}
use Rattle.flame_case_runs.proofs.shares.outputs_of.Goals as goal

pub returns-in-Some : goal.returns-in-Some
returns-in-Some c =
    let model = c.args.program.now.model in
    let function = c.args.function in
    let route = c.in-Some.route.now in
    let items = c.items.result.now in
    let found = c.in-Some.ensures.lookup in
    let at = ap (λ (l : List Route). slice_get l function) (sym c.items.ensures)
    ∙ slice_get_read items _ function route refl found.3.0 found.1 in
    c.items-in-Some.ensures ∙ outputs-there model c.routes.result.now function c.routes.ensures route at

pub returns-in-None : goal.returns-in-None
returns-in-None c =
    let model = c.args.program.now.model in
    let function = c.args.function in
    let past = ap (λ (l : List Route). slice_get l function) (sym c.items.ensures)
    ∙ slice_get_past c.items.result.now function c.in-None.ensures.lookup.3 in
    ap (λ (p : Option Place). outputs_at p model) (sym (nowhere model c.routes.result.now function c.routes.ensures past))
