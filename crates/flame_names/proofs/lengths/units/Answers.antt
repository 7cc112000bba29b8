use Rattle.std.proofs.Common.{◌∙◌, sym, ap, ◌∷◌, [], ◌++◌, take}
use Rattle.std.proofs.lemmas.Result.{err_from_is_err_and}
use Rattle.std.proofs.lemmas.List.{take_more}
use Rattle.flame_spec.specs.Paths.{at_number}
use Rattle.flame_spec.specs.UnitFaults.{unit_faults}
use Rattle.flame_spec.proofs.FaultLists.{FailsFirst-member}
use Rattle.flame_names.specs.PlacePaths.{text_of}
use Rattle.flame_names.specs.UnitTables.{unit_at, with_unit}
use Rattle.flame_names.proofs.Rests.{none-member}
use Rattle.flame_names.proofs.Units.{unit-is, knows-push, knows-same}
use Rattle.flame_names.proofs.lengths.units.Goals as goal

pub returns-in_err-add_unit-clause-first : goal.returns-in_err-add_unit-clause-first
returns-in_err-add_unit-clause-first c =
    let p = err_from_is_err_and c.from_residual-in_err-add_unit.result c.from_residual-in_err-add_unit.ensures.1 in
    let path = text_of c.args.place.now in
    let units = c.args.units.now in
    let unit = c.index-units-i.result in
    rw
    (p.1, p.2)
    (FailsFirst-member
    _
    (λ i unit. unit_faults (take i units) (at_number path i) unit)
    units
    c.loop-i.i
    unit
    _
    (unit_at c.loop-i.known (at_number path c.loop-i.i) unit)
    c.loop-i-test.true
    c.loop-i.invariant.rest
    (unit-is c.loop-i.known (take c.loop-i.i units) (at_number path c.loop-i.i) unit c.loop-i.invariant.knows
    ∙ ap (unit_faults (take c.loop-i.i units) (at_number path c.loop-i.i)) c.index-units-i.is)
    c.in_err-add_unit.ensures.first)

pub loop-i-preserved : goal.loop-i-preserved
loop-i-preserved c =
    let path = text_of c.args.place.now in
    let units = c.args.units.now in
    let unit = c.index-units-i.result in
    let i = c.loop-i.i in
    let known = c.loop-i.known in
    let none = c.in_ok-add_unit.ensures.none in
    record {
      knows =
          knows-same
          (with_unit known unit)
          _
          (take i units ++ unit ∷ [])
          _
          (knows-push known (take i units) (at_number path i) unit c.loop-i.invariant.knows none)
          (sym c.in_ok-add_unit.ensures.after)
          (ap (λ u. take i units ++ u ∷ []) c.index-units-i.is ∙ sym (take_more units i unit c.loop-i-test.true));
      rest =
          c.loop-i.invariant.rest
          ∙ none-member
          (λ i unit. unit_faults (take i units) (at_number path i) unit)
          units
          i
          unit
          (unit_at known (at_number path i) unit)
          c.loop-i-test.true
          (unit-is known (take i units) (at_number path i) unit c.loop-i.invariant.knows
          ∙ ap (unit_faults (take i units) (at_number path i)) c.index-units-i.is)
          none;
    }
