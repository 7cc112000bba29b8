-- One name more, and the nested files of a file.
use Rattle.std.proofs.Common.{◌≡◌, ◌<◌, ◌≤◌, ◌-◌, ◌∙◌, false, length, Ok, ap, sym, subst, arith, le_refl}
use Rattle.std.proofs.lemmas.List.{drop_all}
use Rattle.flame_outside.proofs.FrameLemmas.{reads_same, reads_join}
use Rattle.flame_load.specs.ModelFileReads.{with_all, with_name}
use Rattle.flame_spec.specs.KnownNames.{is_among}
use Rattle.flame_load.specs.LoadAnswers.{Stops}
use Rattle.flame_load.specs.RestsOfReadings.{files_read}
use Rattle.flame_load.proofs.Leftovers.{rest_same, rest_join}
use Rattle.flame_load.proofs.FileSteps.{names_at, names_stop, leaves_by, is_too_many_at, stops_at_file, leaves_rest, nested_left}
use Rattle.flame_load.proofs.model_files.+nested.Goals as goal

pub add_all-loop-name-init : goal.add_all-loop-name-init
add_all-loop-name-init g t c = record {
  rest = λ told held. rest_same (with_all (with_name c.args.deep told) (files_read c.args.files.now) c.args.names.now);
  formed = c.requires.formed;
  paired = c.requires.paired;
  grows = le_refl _;
  reads = reads_same (g.D.Depot.seen c.args.depot.now);
}

pub add_all-loop-name-preserved : goal.add_all-loop-name-preserved
add_all-loop-name-preserved g t c =
    let l = c.loop-name in
    let e = c.in_ok-add_name.ensures in
    let with_one = with_name c.args.deep in
    record {
      rest = λ told held.
          rest_join (with_all (with_one told) (files_read c.args.files.now) c.args.names.now) _ _ (l.invariant.rest told held)
          (names_at (with_one told) (files_read l.files) (files_read c.add_name.new.files) c.args.names.now l.name-index c.name-item.result
          c.loop-name-test.true c.name-item.is
          (subst (λ name. (with_one told (files_read l.files) name).answer ≡ Ok (files_read c.add_name.new.files)) c.as_str.ensures
          (e.gives told (l.invariant.reads.files ∙ held))));
      formed = e.formed;
      paired = e.paired;
      grows = omega (arith, l.invariant.grows, e.grows);
      reads = reads_join _ _ _ l.invariant.reads c.add_name.ensures.reads;
    }

pub add_all-returns-in_err-add_name-clause-gives : goal.add_all-returns-in_err-add_name-clause-gives
add_all-returns-in_err-add_name-clause-gives g t c = λ told held.
    let l = c.loop-name in
    let with_one = with_name c.args.deep told in
    leaves_by c.from_residual.result _ _ (with_all with_one (files_read c.args.files.now) c.args.names.now) _
    c.from_residual.ensures.1
    (l.invariant.rest told held)
    (names_stop _ with_one (files_read l.files) c.args.names.now l.name-index c.name-item.result c.loop-name-test.true c.name-item.is
    (subst (λ name. Stops c.in_err-add_name.field-0.0 (with_one (files_read l.files) name)) c.as_str.ensures
    (c.in_err-add_name.ensures.gives told (l.invariant.reads.files ∙ held))))

pub add_all-returns-clause-gives : goal.add_all-returns-clause-gives
add_all-returns-clause-gives g t c = λ told held.
    let l = c.loop-name in
    let with_one = with_name c.args.deep told in
    (l.invariant.rest told held).answer
    ∙ ap (λ names. (with_all with_one (files_read l.files) names).answer)
    (drop_all l.name-index c.args.names.now c.loop-name-test.false)

pub add_name-returns-then-len-ge-MOST_FILES-clause-gives : goal.add_name-returns-then-len-ge-MOST_FILES-clause-gives
add_name-returns-then-len-ge-MOST_FILES-clause-gives g t c = λ told held.
    let names = c.args.files.now.names.items in
    let name = c.args.name.now in
    let full : 64 ≤ length names = omega (arith, c.len.ensures, c.if-len-ge-MOST_FILES.true) in
    let new : is_among name names ≡ false =
    subst (λ ns. is_among name ns ≡ false) c.as_slice.ensures.value (sym c.has_name.ensures ∙ c.if-has_name.false) in
    is_too_many_at c.args.deep told (files_read c.args.files.now) name c.in_ok-of.field-0 c.requires.1.1.1.1.0 new full
    c.in_ok-of.ensures

pub add_name-returns-in_err-nested-clause-gives : goal.add_name-returns-in_err-nested-clause-gives
add_name-returns-in_err-nested-clause-gives g t c = λ told held.
    let names = c.args.files.now.names.items in
    let name = c.args.name.now in
    let whole = with_name c.args.deep told (files_read c.args.files.now) name in
    let room : length names < 64 = omega (arith, c.len.ensures, c.if-len-ge-MOST_FILES.false) in
    let new : is_among name names ≡ false =
    subst (λ ns. is_among name ns ≡ false) c.as_slice.ensures.value (sym c.has_name.ensures ∙ c.if-has_name.false) in
    leaves_by c.from_residual-in_err-nested.result c.in_err-nested.field-0.0 c.add_file.new.files whole whole
    c.from_residual-in_err-nested.ensures.1
    (rest_same whole)
    (stops_at_file c.in_err-nested.field-0.0 c.args.deep told (files_read c.args.files.now) name c.requires.1.1.1.1.0 new room
    (c.in_err-nested.ensures.adds told held))

pub add_name-returns-clause-gives : goal.add_name-returns-clause-gives
add_name-returns-clause-gives g t c = λ told held.
    let names = c.args.files.now.names.items in
    let name = c.args.name.now in
    let deep = c.args.deep in
    let room : length names < 64 = omega (arith, c.len.ensures, c.if-len-ge-MOST_FILES.false) in
    let new : is_among name names ≡ false =
    subst (λ ns. is_among name ns ≡ false) c.as_slice.ensures.value (sym c.has_name.ensures ∙ c.if-has_name.false) in
    leaves_rest c.add_all.result c.add_all.new.files (with_name deep told (files_read c.args.files.now) name)
    (with_all (with_name (deep - 1) told) (files_read c.add_file.new.files) c.as_slice-2.result.now)
    (nested_left deep told c.args.files.now c.add_file.new.files name c.in_ok-nested.nested.items c.as_slice-2.result.now
    c.requires.1.1.1.1.0 new room (c.in_ok-nested.ensures.adds told held) c.as_slice-2.ensures.value)
    (c.add_all.ensures.gives told (c.add_file.ensures.reads.files ∙ held))
