use Rattle.std.proofs.Common.{◌≡◌, [], subst}
use Rattle.std.specs.Prelude.{IfErr, OnOk}
use Rattle.flame_spec.specs.CheckFaults.{definition_faults}
use Rattle.flame_spec.specs.FirstFaults.{FailsFirst}
use Rattle.flame_lookup.specs.Sources.{BodyPlace, context_at}
use Rattle.flame_lookup.specs.WordsFound.{definition_found}
use Rattle.flame_check.proofs.walking.clean_for.Goals as goal

pub returns-clause-clean : goal.returns-clause-clean
returns-clause-clean c =
    let d = definition_found c.args.function.now in
    subst (λ (s : BodyPlace). OnOk c.clean_there.result (definition_faults (context_at s) d ≡ [])) c.in_ok-words.ensures
    c.clean_there.ensures.clean

pub returns-clause-first : goal.returns-clause-first
returns-clause-first c =
    let d = definition_found c.args.function.now in
    subst (λ (s : BodyPlace). IfErr c.clean_there.result (FailsFirst (definition_faults (context_at s) d)))
    c.in_ok-words.ensures c.clean_there.ensures.first
