use Rattle.std.proofs.Common.{◌≡◌, ◌∙◌, ap, sym, cond}
use Rattle.std.specs.List.{flat_map}
use Rattle.std.proofs.lemmas.Result.{err_from_is_err_and}
use Rattle.flame_spec.specs.CheckFaults.{bodies_faults, body_faults, definition_faults}
use Rattle.flame_spec.specs.Definitions.{helpers}
use Rattle.flame_spec.specs.Functions.{functions}
use Rattle.flame_spec.specs.HelperFaults.{helper_context}
use Rattle.flame_spec.proofs.FaultLists.{FailsFirst-same}
use Rattle.flame_lookup.specs.Sources.{BodyPlace, context_at}
use Rattle.flame_lookup.specs.WordsFound.{definition_found}
use Rattle.flame_check.proofs.walking.clean_body.Goals as goal

pub returns-in_err-definition-clause-first : goal.returns-in_err-definition-clause-first
returns-in_err-definition-clause-first c =
    let p = err_from_is_err_and c.from_residual.result c.from_residual.ensures.1 in
    let model = c.args.tables.now.model in
    let hs = helpers model c.args.tables.now.units in
    let d = definition_found c.args.function.now in
    let same : bodies_faults model hs d ≡ definition_faults (context_at c.for_helper-words.result) d =
    ap
    (λ b.
    cond b (definition_faults (helper_context model hs d) d) (flat_map (body_faults model hs d) (functions model)))
    (sym c.is_helper.ensures ∙ c.if-is_helper.true)
    ∙ ap (λ (s : BodyPlace). definition_faults (context_at s) d) (sym c.for_helper-words.ensures) in
    rw (p.1, p.2)
    (FailsFirst-same
    _
    (definition_faults (context_at c.for_helper-words.result) d)
    (bodies_faults model hs d)
    (sym same)
    c.in_err-definition.ensures.first)
