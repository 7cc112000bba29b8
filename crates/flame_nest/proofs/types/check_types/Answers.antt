use Rattle.std.proofs.Common.{◌∙◌, ap, sym, take, cond, ◌++◌, ◌∷◌, []}
use Rattle.std.proofs.lemmas.Result.{err_from_is_err_and}
use Rattle.std.specs.Option.{is_some}
use Rattle.flame_spec.specs.KnownNames.{is_among}
use Rattle.flame_spec.proofs.FaultLists.{FailsFirst-member}
use Rattle.flame_nest.specs.FlatModels.{with_new}
use Rattle.flame_nest.specs.NestFaults.{meant_by, type_names, type_faults}
use Rattle.flame_name_sets.specs.NameTables.{look}
use Rattle.flame_nest.specs.GivenTables.{given_in}
use Rattle.flame_nest.proofs.Firsts.{none-member}
use Rattle.flame_nest.proofs.Joins.{with_new-none, with_new-more}
use Rattle.flame_nest.proofs.Typing.{type_once, here-more, member-is}
use Rattle.flame_nest.proofs.types.check_types.Goals as goal

pub check_type-requires : goal.check_type-requires
check_type-requires c = record {
  known =
      λ name p q.
      ap (λ l. is_among name (type_names l)) c.loop-declared.invariant.kinds
      ∙ with_new-none
      (λ type. type.name)
      name
      c.args.kinds.now
      (take c.loop-declared.declared-index c.args.types.now)
      (c.requires.known name ∙ p)
      (ap (is_among name) (sym c.loop-declared.invariant.here) ∙ q);
}

pub returns-in_err-check_type-clause-first : goal.returns-in_err-check_type-clause-first
returns-in_err-check_type-clause-first c =
    let p = err_from_is_err_and c.from_residual.result c.from_residual.ensures.1 in
    rw
    (p.1, p.2)
    (FailsFirst-member
    _
    (λ i type.
    type_faults
    c.args.file.now
    (given_in c.args.earlier.now)
    (type_names (take i c.args.types.now))
    (meant_by (with_new (λ type. type.name) c.args.kinds.now (take i c.args.types.now)))
    type)
    c.args.types.now
    c.loop-declared.declared-index
    c.declared-item.result
    _
    _
    c.loop-declared-test.true
    c.loop-declared.invariant.rest
    (member-is
    c.args.file.now
    (given_in c.args.earlier.now)
    _
    _
    _
    _
    _
    _
    c.loop-declared.invariant.here
    c.loop-declared.invariant.kinds
    c.declared-item.is)
    c.in_err-check_type.ensures.first)

pub loop-declared-preserved : goal.loop-declared-preserved
loop-declared-preserved c = record {
  here =
      c.in_ok-note_name.ensures
      ∙ here-more
      c.args.types.now
      c.loop-declared.declared-index
      c.declared-item.result
      c.declared-item.result
      c.loop-declared.here
      c.loop-declared-test.true
      c.declared-item.is
      c.loop-declared.invariant.here
      (type_once
      c.args.file.now
      (given_in c.args.earlier.now)
      c.loop-declared.here
      (meant_by c.loop-declared.kinds)
      c.declared-item.result
      c.in_ok-check_type.ensures.none);
  kinds =
      c.in_ok-check_type.ensures.kinds
      ∙ ap
      (λ l. cond (is_some (look c.declared-item.result.name c.args.earlier.now)) l (l ++ c.declared-item.result ∷ []))
      c.loop-declared.invariant.kinds
      ∙ sym
      (with_new-more
      (λ type. type.name)
      c.args.kinds.now
      c.args.types.now
      c.loop-declared.declared-index
      c.declared-item.result
      c.declared-item.result
      (is_some (look c.declared-item.result.name c.args.earlier.now))
      c.loop-declared-test.true
      c.declared-item.is
      (c.requires.known c.declared-item.result.name));
  rest =
      none-member
      (λ i type.
      type_faults
      c.args.file.now
      (given_in c.args.earlier.now)
      (type_names (take i c.args.types.now))
      (meant_by (with_new (λ type. type.name) c.args.kinds.now (take i c.args.types.now)))
      type)
      c.args.types.now
      c.loop-declared.declared-index
      c.declared-item.result
      _
      _
      c.loop-declared-test.true
      c.loop-declared.invariant.rest
      (member-is
      c.args.file.now
      (given_in c.args.earlier.now)
      _
      _
      _
      _
      _
      _
      c.loop-declared.invariant.here
      c.loop-declared.invariant.kinds
      c.declared-item.is)
      c.in_ok-check_type.ensures.none;
}
