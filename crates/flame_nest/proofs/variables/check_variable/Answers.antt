use Rattle.std.proofs.Common.{◌∙◌, ◌∷◌, [], ap, sym, not}
use Rattle.std.specs.Prelude.{◌&&◌, ◌||◌, is_some}
use Rattle.std.proofs.lemmas.Result.{err_from_is_err_and, on_ok_weaker, IfErr-weaker}
use Rattle.flame_rows.proofs.Lists.{append-nils}
use Rattle.flame_spec.specs.KnownNames.{is_among}
use Rattle.flame_spec.proofs.FaultLists.{FailsFirst-append, FailsFirst-behind, FailsFirst-same}
use Rattle.flame_nest.specs.declared.faults.NestKind.TheVariants.{UnknownType, TypedArray, TooWide, LongName}
use Rattle.flame_nest.specs.FlatModels.{flat_variables}
use Rattle.flame_nest.specs.NestFaults.{type_names, is_int, is_wide}
use Rattle.flame_nest.proofs.Firsts.{where-same, where-false, never_both}
use Rattle.flame_nest.proofs.variables.check_variable.Goals as goal

pub returns-in_err-refuse-clause-first : goal.returns-in_err-refuse-clause-first
returns-in_err-refuse-clause-first c =
    let p = err_from_is_err_and c.from_residual.result c.from_residual.ensures.1 in
    let file = c.args.file.now in
    let name = c.args.variable.now.name in
    let kind = c.args.variable.now.kind in
    let unknown = c.is_unknown.ensures ∙ ap (λ t. not (is_int kind || t)) c.is_typed-typed.ensures.typed in
    rw
    (p.1, p.2)
    (FailsFirst-append _ _ _ (FailsFirst-same _ _ _ (where-same _ _ UnknownType file name unknown) c.in_err-refuse.ensures.first))

pub returns-in_err-refuse-2-clause-first : goal.returns-in_err-refuse-2-clause-first
returns-in_err-refuse-2-clause-first c =
    let p = err_from_is_err_and c.from_residual-in_err-refuse-2.result c.from_residual-in_err-refuse-2.ensures.1 in
    let file = c.args.file.now in
    let name = c.args.variable.now.name in
    let kind = c.args.variable.now.kind in
    let unknown = c.is_unknown.ensures ∙ ap (λ t. not (is_int kind || t)) c.is_typed-typed.ensures.typed in
    let array = c.is_typed_array.ensures ∙ ap (λ t. t && is_some c.args.variable.now.length) c.is_typed-typed.ensures.typed in
    rw
    (p.1, p.2)
    (FailsFirst-behind
    _
    _
    _
    (sym (where-same _ _ UnknownType file name unknown) ∙ c.in_ok-refuse.ensures.none)
    (FailsFirst-append _ _ _ (FailsFirst-same _ _ _ (where-same _ _ TypedArray file name array) c.in_err-refuse-2.ensures.first)))

pub returns-clause-none : goal.returns-clause-none
returns-clause-none c =
    let file = c.args.file.now in
    let name = c.args.variable.now.name in
    let kind = c.args.variable.now.kind in
    let types = c.args.kinds.now in
    let typed = c.is_typed-typed.ensures.typed in
    let unknown = c.is_unknown.ensures ∙ ap (λ t. not (is_int kind || t)) typed in
    let array = c.is_typed_array.ensures ∙ ap (λ t. t && is_some c.args.variable.now.length) typed in
    let narrow = never_both c.is_typed-typed.result (is_among kind (type_names types))
    (is_wide (flat_variables types (c.args.variable.now ∷ []))) typed c.is_typed-typed.ensures.narrow in
    on_ok_weaker
    c.refuse-3.result
    (λ e.
    append-nils
    _
    _
    (sym (where-same _ _ UnknownType file name unknown) ∙ c.in_ok-refuse.ensures.none)
    (append-nils
    _
    _
    (sym (where-same _ _ TypedArray file name array) ∙ c.in_ok-refuse-2.ensures.none)
    (append-nils
    _
    _
    (where-false _ TooWide file name narrow)
    (sym (where-same _ _ LongName file name c.has_long.ensures) ∙ e))))
    c.refuse-3.ensures.none

pub returns-clause-first : goal.returns-clause-first
returns-clause-first c =
    let file = c.args.file.now in
    let name = c.args.variable.now.name in
    let kind = c.args.variable.now.kind in
    let types = c.args.kinds.now in
    let typed = c.is_typed-typed.ensures.typed in
    let unknown = c.is_unknown.ensures ∙ ap (λ t. not (is_int kind || t)) typed in
    let array = c.is_typed_array.ensures ∙ ap (λ t. t && is_some c.args.variable.now.length) typed in
    let narrow = never_both c.is_typed-typed.result (is_among kind (type_names types))
    (is_wide (flat_variables types (c.args.variable.now ∷ []))) typed c.is_typed-typed.ensures.narrow in
    IfErr-weaker
    c.refuse-3.result
    _
    _
    (λ fail h.
    FailsFirst-behind
    fail
    _
    _
    (sym (where-same _ _ UnknownType file name unknown) ∙ c.in_ok-refuse.ensures.none)
    (FailsFirst-behind
    fail
    _
    _
    (sym (where-same _ _ TypedArray file name array) ∙ c.in_ok-refuse-2.ensures.none)
    (FailsFirst-behind
    fail
    _
    _
    (where-false _ TooWide file name narrow)
    (FailsFirst-same fail _ _ (where-same _ _ LongName file name c.has_long.ensures) h))))
    c.refuse-3.ensures.first
