use Rattle.std.proofs.Common.{◌≡◌, ◌∙◌, sym, ap, codes, Some}
use Rattle.std.proofs.lemmas.Result.{IfErr-weaker, on_ok_weaker}
use Rattle.flame_spec.specs.declared.faults.NameKind.TheVariants.{Clash}
use Rattle.flame_spec.specs.KnownNames.{is_among, variable_names}
use Rattle.flame_ops.specs.Ascii.{capitals}
use Rattle.flame_spec.specs.Paths.{at_key}
use Rattle.flame_spec.specs.Refusals.{fault_where, name_fault}
use Rattle.flame_spec.proofs.FaultLists.{FailsFirst-same}
use Rattle.flame_names.specs.PlacePaths.{text_of}
use Rattle.flame_names.proofs.Among.{looked_up}
use Rattle.flame_name_sets.proofs.Among.{was_there, was_new}
use Rattle.flame_names.proofs.Firsts.{fails_first, memory_name_faults-clash, memory_name_faults-new}
use Rattle.flame_names.proofs.agents.add_memory_name.Goals as goal

pub returns-then-not-branch-clause-first : goal.returns-then-not-branch-clause-first
returns-then-not-branch-clause-first c =
    let there = was_there _ _ c.in_ok-add.ensures.added c.if-not-branch.true in
    let names = variable_names c.args.earlier.now in
    let path = at_key (text_of c.args.place.now) (codes "name") in
    let name = c.args.variable.now.name in
    fails_first
    _
    _
    _
    (memory_name_faults-clash
    c.args.constants.now
    names
    path
    name
    c.in_ok-add_variable.ensures.added
    (looked_up name _ _ names (c.in_ok-shouted.ensures ∙ ap capitals c.as_str-name.ensures) c.requires ∙ there)
    ∙ ap (λ n. Some (name_fault Clash path n)) (sym c.as_str-name.ensures))
    c.fault.ensures

pub returns-clause-none : goal.returns-clause-none
returns-clause-none c =
    let new = was_new _ _ c.in_ok-add.ensures.added c.if-not-branch.false in
    let constants = c.args.constants.now in
    let names = variable_names c.args.earlier.now in
    let path = at_key (text_of c.args.place.now) (codes "name") in
    let name = c.args.variable.now.name in
    let shouted = c.in_ok-shouted.ensures ∙ ap capitals c.as_str-name.ensures in
    let constant : is_among (capitals name) constants ≡ c.has-is_constant.result =
    sym (c.has-is_constant.ensures ∙ ap (λ n. is_among n constants) (c.as_str.ensures.value ∙ shouted)) in
    let whole =
    memory_name_faults-new
    constants
    names
    path
    name
    c.in_ok-add_variable.ensures.added
    (looked_up name _ _ names shouted c.requires ∙ new)
    ∙ ap (λ b. fault_where b Clash path name) constant
    ∙ ap (fault_where c.has-is_constant.result Clash path) (sym c.as_str-name.ensures) in
    on_ok_weaker c.refuse.result (λ e. whole ∙ e) c.refuse.ensures.none

pub returns-clause-first : goal.returns-clause-first
returns-clause-first c =
    let new = was_new _ _ c.in_ok-add.ensures.added c.if-not-branch.false in
    let constants = c.args.constants.now in
    let names = variable_names c.args.earlier.now in
    let path = at_key (text_of c.args.place.now) (codes "name") in
    let name = c.args.variable.now.name in
    let shouted = c.in_ok-shouted.ensures ∙ ap capitals c.as_str-name.ensures in
    let constant : is_among (capitals name) constants ≡ c.has-is_constant.result =
    sym (c.has-is_constant.ensures ∙ ap (λ n. is_among n constants) (c.as_str.ensures.value ∙ shouted)) in
    let whole =
    memory_name_faults-new
    constants
    names
    path
    name
    c.in_ok-add_variable.ensures.added
    (looked_up name _ _ names shouted c.requires ∙ new)
    ∙ ap (λ b. fault_where b Clash path name) constant
    ∙ ap (fault_where c.has-is_constant.result Clash path) (sym c.as_str-name.ensures) in
    IfErr-weaker c.refuse.result _ _ (λ fail. FailsFirst-same fail _ _ (sym whole)) c.refuse.ensures.first
