-- One function file more.
use Rattle.std.proofs.Common.{◌≡◌, ◌+◌, ◌∙◌, [], ◌∷◌, Ok, ap, sym, subst, length, drop, arith}
use Rattle.std.proofs.lemmas.List.{drop_all, length-append}
use Rattle.flame_outside.proofs.FrameLemmas.{reads_same, reads_join}
use Rattle.flame_load.specs.FunctionFileReads.{unit_in, units_in}
use Rattle.flame_load.specs.LoadAnswers.{Stops}
use Rattle.flame_load.specs.RestsOfReadings.{IsRestOf}
use Rattle.flame_load.proofs.Leftovers.{rest_join}
use Rattle.flame_load.proofs.FileSteps.{units_rest, units_begin, units_at, units_stop, units_end, gives_by}
use Rattle.flame_load.proofs.function_files.units_in.Goals as goal

pub loop-name-init : goal.loop-name-init
loop-name-init g c =
    let names = c.args.names.now in
    record {
      rest = λ told read held reads.
          subst (λ done. IsRestOf (units_in read told names) (units_rest read told done names)) (sym c.new-units.ensures.items)
          (units_begin read told names);
      paired = ap length c.new-units.ensures.items;
      reads = reads_same (g.D.Depot.seen c.args.depot.now);
    }

pub loop-name-preserved : goal.loop-name-preserved
loop-name-preserved g c =
    let l = c.loop-name in
    let names = c.args.names.now in
    let unit = c.in_ok-unit.unit in
    record {
      rest = λ told read held reads.
          subst
          (λ done. IsRestOf (units_in read told names) (units_rest read told done (drop (l.name-index + 1) names)))
          (sym c.in_ok-push.ensures.items)
          (rest_join (units_in read told names) _ _ (l.invariant.rest told read held reads)
          (units_at read told l.units.items names l.name-index c.name-item.result unit c.loop-name-test.true c.name-item.is
          (subst (λ name. (unit_in read told name).answer ≡ Ok unit) c.as_str.ensures
          (c.in_ok-unit.ensures.gives told read (l.invariant.reads.files ∙ held) reads))));
      paired =
          let more = length-append l.units.items (unit ∷ []) in
          ap length c.in_ok-push.ensures.items ∙ omega (arith, more, l.invariant.paired);
      reads = reads_join _ _ _ l.invariant.reads c.unit_in.ensures.reads;
    }

pub returns-in_err-unit-clause-gives : goal.returns-in_err-unit-clause-gives
returns-in_err-unit-clause-gives g c = λ told read held reads.
    let l = c.loop-name in
    let names = c.args.names.now in
    gives_by (λ units. units.items) c.from_residual.result _ (units_in read told names) _
    c.from_residual.ensures.1
    (l.invariant.rest told read held reads)
    (units_stop _ read told l.units.items names l.name-index c.name-item.result c.loop-name-test.true c.name-item.is
    (subst (λ name. Stops c.in_err-unit.field-0.0 (unit_in read told name)) c.as_str.ensures
    (c.in_err-unit.ensures.gives told read (l.invariant.reads.files ∙ held) reads)))

pub returns-clause-gives : goal.returns-clause-gives
returns-clause-gives g c = λ told read held reads.
    let l = c.loop-name in
    (l.invariant.rest told read held reads).answer
    ∙ units_end read told l.units.items _ (drop_all l.name-index c.args.names.now c.loop-name-test.false)
