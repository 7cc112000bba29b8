use Rattle.std.proofs.Common.{◌∙◌, sym, ap, codes}
use Rattle.std.proofs.lemmas.Result.{IfErr-weaker, on_ok_weaker}
use Rattle.flame_spec.specs.KnownNames.{declared_by}
use Rattle.flame_spec.specs.NameFaults.{agents_faults}
use Rattle.flame_spec.specs.Paths.{at_key}
use Rattle.flame_spec.proofs.FaultLists.{FailsFirst-same}
use Rattle.flame_names.specs.PlacePaths.{text_of}
use Rattle.flame_names.proofs.Wholes.{declared-is}
use Rattle.flame_names.proofs.naming.agent_types.Goals as goal

pub returns-clause-none : goal.returns-clause-none
returns-clause-none c =
    let path = text_of c.args.place.now in
    let model = c.args.model.now in
    let whole =
    ap
    (λ known. agents_faults known (at_key path (codes "agents")) c.items.result.now)
    (declared-is
    c.args.constants.now
    c.args.units.now
    c.args.messages.now
    model
    c.requires.constants
    c.requires.units
    c.requires.messages)
    ∙ ap (agents_faults (declared_by model) (at_key path (codes "agents"))) c.items.ensures in
    on_ok_weaker c.agents.result (λ e. sym whole ∙ e) c.agents.ensures.none

pub returns-clause-first : goal.returns-clause-first
returns-clause-first c =
    let path = text_of c.args.place.now in
    let model = c.args.model.now in
    let whole =
    ap
    (λ known. agents_faults known (at_key path (codes "agents")) c.items.result.now)
    (declared-is
    c.args.constants.now
    c.args.units.now
    c.args.messages.now
    model
    c.requires.constants
    c.requires.units
    c.requires.messages)
    ∙ ap (agents_faults (declared_by model) (at_key path (codes "agents"))) c.items.ensures in
    IfErr-weaker c.agents.result _ _ (λ fail. FailsFirst-same fail _ _ whole) c.agents.ensures.first
