use Rattle.std.proofs.Common.{◌≡◌, ◌∙◌, List, [], ap, subst}
use Rattle.std.specs.Prelude.{IfErr}
use Rattle.flame_spec.specs.declared.faults.CheckFault.{CheckFault}
use Rattle.flame_spec.specs.CheckFaults.{definition_faults}
use Rattle.flame_spec.specs.FirstFaults.{FailsFirst}
use Rattle.flame_lookup.specs.Sources.{BodyPlace, context_at}
use Rattle.flame_lookup.specs.WordsFound.{definition_found}
use Rattle.flame_check.proofs.Clean.{clean_helper}
use Rattle.flame_check.proofs.numbering.numbered_helper.Goals as goal

pub returns-clause-none : goal.returns-clause-none
returns-clause-none c =
    let sources = c.args.tables.now in
    let d = definition_found c.args.function.now in
    let clean : definition_faults (context_at c.for_helper-words.result) d ≡ [] =
    ap (λ (s : BodyPlace). definition_faults (context_at s) d) c.for_helper-words.ensures
    ∙ clean_helper sources.model sources.units c.args.number d c.requires.clean c.requires.helper in
    let P : List CheckFault → Type 0 = λ faults. IfErr c.body.result (FailsFirst faults) in
    subst P clean c.body.ensures.first
