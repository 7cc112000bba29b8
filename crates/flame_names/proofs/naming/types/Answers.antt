use Rattle.std.proofs.Common.{◌∙◌, sym, ap, codes, ◌++◌}
use Rattle.std.proofs.lemmas.Result.{IfErr-weaker, on_ok_weaker}
use Rattle.flame_spec.specs.KnownNames.{declared_by}
use Rattle.flame_spec.specs.MessageFaults.{messages_faults}
use Rattle.flame_spec.specs.NameFaults.{agents_faults}
use Rattle.flame_spec.specs.Paths.{at_key}
use Rattle.flame_spec.proofs.FaultLists.{FailsFirst-same}
use Rattle.flame_names.specs.PlacePaths.{text_of}
use Rattle.flame_names.proofs.naming.types.Goals as goal

pub returns-clause-none : goal.returns-clause-none
returns-clause-none c =
    let path = text_of c.args.place.now in
    let model = c.args.model.now in
    let rest = agents_faults (declared_by model) (at_key path (codes "agents")) model.agents in
    let whole =
    ap
    (λ l. l ++ rest)
    (ap (messages_faults (at_key path (codes "messages"))) (sym c.items.ensures) ∙ c.in_ok-messages.ensures.none) in
    on_ok_weaker c.agent_types.result (λ e. whole ∙ e) c.agent_types.ensures.none

pub returns-clause-first : goal.returns-clause-first
returns-clause-first c =
    let path = text_of c.args.place.now in
    let model = c.args.model.now in
    let rest = agents_faults (declared_by model) (at_key path (codes "agents")) model.agents in
    let whole =
    ap
    (λ l. l ++ rest)
    (ap (messages_faults (at_key path (codes "messages"))) (sym c.items.ensures) ∙ c.in_ok-messages.ensures.none) in
    IfErr-weaker c.agent_types.result _ _ (λ fail. FailsFirst-same fail _ _ (sym whole)) c.agent_types.ensures.first
