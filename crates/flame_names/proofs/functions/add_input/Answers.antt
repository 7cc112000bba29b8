use Rattle.std.proofs.Common.{◌≡◌, ◌∙◌, ◌++◌, [], Some, None, sym, ap, codes, unwrap_or}
use Rattle.std.specs.Option.{is_some, option_copied}
use Rattle.std.proofs.lemmas.Result.{err_from_is_err_and, IfErr-weaker, on_ok_weaker}
use Rattle.flame_spec.specs.declared.faults.NameKind.TheVariants.{Duplicate, UnknownMessage}
use Rattle.flame_spec.specs.KnownNames.{is_among}
use Rattle.flame_spec.specs.Paths.{at_key}
use Rattle.flame_spec.specs.Refusals.{fault_where, name_fault}
use Rattle.flame_spec.specs.FunctionFaults.{reading_faults}
use Rattle.flame_spec.proofs.FaultLists.{FailsFirst-same, FailsFirst-front}
use Rattle.flame_names.specs.PlacePaths.{text_of}
use Rattle.flame_names.specs.TableScopes.{declared_of}
use Rattle.flame_name_sets.specs.NameTables.{look}
use Rattle.flame_names.proofs.Firsts.{fails_first}
use Rattle.flame_name_sets.proofs.Tables.{is_some-look}
use Rattle.flame_names.proofs.Readings.{read_scope, input_faults-known, input_faults-unknown, rest_is}
use Rattle.flame_names.proofs.functions.add_input.Goals as goal

pub returns-in_default-clause-first : goal.returns-in_default-clause-first
returns-in_default-clause-first c =
    let name = c.args.input.now.message in
    let messages = c.args.tables.now.messages.now in
    let at : look name messages ≡ None =
    ap (λ n. look n messages) (sym c.as_str-name.ensures)
    ∙ ap (look c.as_str-name.result.now) (sym c.messages.ensures)
    ∙ sym c.variables.ensures
    ∙ ap option_copied c.in_default.is in
    fails_first
    _
    _
    _
    (input_faults-unknown
    (declared_of c.args.tables.now)
    c.args.memory.now
    c.args.earlier.now
    (text_of c.args.place.now)
    c.args.input.now
    (sym (is_some-look name messages) ∙ ap is_some at)
    ∙ ap
    (λ n. Some (name_fault UnknownMessage (at_key (text_of c.args.place.now) (codes "messageName")) n))
    (sym c.as_str-name.ensures))
    c.fault.ensures

pub returns-in_err-add_new-clause-first : goal.returns-in_err-add_new-clause-first
returns-in_err-add_new-clause-first c =
    let p = err_from_is_err_and c.from_residual.result c.from_residual.ensures.1 in
    let name = c.args.input.now.message in
    let messages = c.args.tables.now.messages.now in
    let declared = declared_of c.args.tables.now in
    let path = text_of c.args.place.now in
    let at : look name messages ≡ Some c.in-Some.variables.now =
    ap (λ n. look n messages) (sym c.as_str-name.ensures)
    ∙ ap (look c.as_str-name.result.now) (sym c.messages.ensures)
    ∙ sym c.variables.ensures
    ∙ ap option_copied c.in-Some.is in
    rw
    (p.1, p.2)
    (FailsFirst-front
    _
    _
    (fault_where
    (is_among c.as_str-name.result.now c.args.earlier.now)
    Duplicate
    (at_key path (codes "messageName"))
    c.as_str-name.result.now)
    (reading_faults (read_scope declared c.args.memory.now c.in-Some.variables.now) path c.args.input.now)
    (input_faults-known
    declared
    c.args.memory.now
    c.args.earlier.now
    path
    c.args.input.now
    c.in-Some.variables.now
    (sym (is_some-look name messages) ∙ ap is_some at)
    (ap (λ o. unwrap_or o []) at)
    ∙ ap
    (λ n.
    fault_where (is_among n c.args.earlier.now) Duplicate (at_key path (codes "messageName")) n
    ++ reading_faults (read_scope declared c.args.memory.now c.in-Some.variables.now) path c.args.input.now)
    (sym c.as_str-name.ensures))
    c.in_err-add_new.ensures.first)

pub returns-clause-none : goal.returns-clause-none
returns-clause-none c =
    let name = c.args.input.now.message in
    let messages = c.args.tables.now.messages.now in
    let declared = declared_of c.args.tables.now in
    let path = text_of c.args.place.now in
    let at : look name messages ≡ Some c.in-Some.variables.now =
    ap (λ n. look n messages) (sym c.as_str-name.ensures)
    ∙ ap (look c.as_str-name.result.now) (sym c.messages.ensures)
    ∙ sym c.variables.ensures
    ∙ ap option_copied c.in-Some.is in
    let whole = rest_is declared c.args.memory.now c.args.earlier.now path c.args.input.now c.in-Some.variables.now
    c.as_str-name.result.now
    c.as_str-name.ensures
    (sym (is_some-look name messages) ∙ ap is_some at)
    (ap (λ o. unwrap_or o []) at)
    c.in_ok-add_new.ensures.none in
    on_ok_weaker c.reading.result (λ e. whole ∙ e) c.reading.ensures.none

pub returns-clause-first : goal.returns-clause-first
returns-clause-first c =
    let name = c.args.input.now.message in
    let messages = c.args.tables.now.messages.now in
    let declared = declared_of c.args.tables.now in
    let path = text_of c.args.place.now in
    let at : look name messages ≡ Some c.in-Some.variables.now =
    ap (λ n. look n messages) (sym c.as_str-name.ensures)
    ∙ ap (look c.as_str-name.result.now) (sym c.messages.ensures)
    ∙ sym c.variables.ensures
    ∙ ap option_copied c.in-Some.is in
    let whole = rest_is declared c.args.memory.now c.args.earlier.now path c.args.input.now c.in-Some.variables.now
    c.as_str-name.result.now
    c.as_str-name.ensures
    (sym (is_some-look name messages) ∙ ap is_some at)
    (ap (λ o. unwrap_or o []) at)
    c.in_ok-add_new.ensures.none in
    IfErr-weaker
    c.reading.result
    _
    _
    (λ fail. FailsFirst-same fail _ _ (sym whole))
    c.reading.ensures.first
