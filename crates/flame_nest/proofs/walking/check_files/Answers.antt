use Rattle.std.proofs.Common.{◌<◌, length, refl, take, map, [], unwrap_or, arith}
use Rattle.std.specs.Prelude.{slice_get}
use Rattle.std.proofs.lemmas.Result.{err_from_is_err_and}
use Rattle.flame_spec.proofs.FaultLists.{FailsFirst-member}
use Rattle.flame_nest.specs.NestFaults.{of_type, of_message, file_faults}
use Rattle.flame_nest.specs.GivenTables.{given_in}
use Rattle.flame_nest.proofs.Firsts.{none-member}
use Rattle.flame_nest.proofs.Walks.{types-known, given-more, kinds-more, kept-more, walk-is}
use Rattle.flame_nest.proofs.walking.check_files.Goals as goal

pub add-requires : goal.add-requires
add-requires c = record {
  known =
      λ name.
      types-known
      (take c.loop-i.i c.args.wides.now)
      c.loop-i.walk.kinds
      (given_in c.loop-i.walk.types)
      name
      c.loop-i.invariant.kinds
      c.loop-i.invariant.types;
}

pub returns-in_err-add-clause-first : goal.returns-in_err-add-clause-first
returns-in_err-add-clause-first c =
    let p = err_from_is_err_and c.from_residual.result c.from_residual.ensures.1 in
    let files = c.args.files.now in
    let wides = c.args.wides.now in
    let inside : c.loop-i.i < length c.args.files.now = omega arith in
    rw
    (p.1, p.2)
    (FailsFirst-member
    _
    (λ i wide. file_faults (unwrap_or (slice_get files i) []) (take i wides) wide)
    wides
    c.loop-i.i
    c.index-wides-i.result
    _
    _
    c.loop-i-test.true
    c.loop-i.invariant.rest
    (walk-is
    files
    wides
    c.loop-i.i
    c.index-wides-i.result
    c.index-wides-i.result
    c.index-files-i.result
    c.index-files-i.result
    (given_in c.loop-i.walk.types)
    (given_in c.loop-i.walk.messages)
    c.loop-i.walk.kinds
    c.index-wides-i.is
    c.index-files-i.is
    inside
    c.loop-i.invariant.types
    c.loop-i.invariant.messages
    c.loop-i.invariant.kinds)
    c.in_err-add.ensures.first)

pub loop-i-preserved : goal.loop-i-preserved
loop-i-preserved c =
    let files = c.args.files.now in
    let wides = c.args.wides.now in
    let inside : c.loop-i.i < length c.args.files.now = omega arith in
    record {
      types =
          given-more
          (λ wide. map of_type wide.types)
          wides
          c.loop-i.i
          c.index-wides-i.result
          c.index-wides-i.result
          c.loop-i.walk.types
          _
          _
          c.loop-i-test.true
          c.index-wides-i.is
          c.loop-i.invariant.types
          c.in_ok-add.ensures.types
          refl;
      messages =
          given-more
          (λ wide. map of_message wide.messages)
          wides
          c.loop-i.i
          c.index-wides-i.result
          c.index-wides-i.result
          c.loop-i.walk.messages
          _
          _
          c.loop-i-test.true
          c.index-wides-i.is
          c.loop-i.invariant.messages
          c.in_ok-add.ensures.messages
          refl;
      kinds =
          kinds-more
          wides
          c.loop-i.i
          c.index-wides-i.result
          c.index-wides-i.result
          c.loop-i.walk.kinds
          _
          c.loop-i-test.true
          c.index-wides-i.is
          c.loop-i.invariant.kinds
          c.in_ok-add.ensures.kinds;
      kept =
          kept-more
          wides
          c.loop-i.i
          c.index-wides-i.result
          c.index-wides-i.result
          (given_in c.loop-i.walk.messages)
          _
          _
          c.index-wides-i.result.messages
          c.loop-i-test.true
          c.index-wides-i.is
          c.loop-i.invariant.messages
          c.loop-i.invariant.kept
          refl
          c.in_ok-add.ensures.kept;
      rest =
          none-member
          (λ i wide. file_faults (unwrap_or (slice_get files i) []) (take i wides) wide)
          wides
          c.loop-i.i
          c.index-wides-i.result
          _
          _
          c.loop-i-test.true
          c.loop-i.invariant.rest
          (walk-is
          files
          wides
          c.loop-i.i
          c.index-wides-i.result
          c.index-wides-i.result
          c.index-files-i.result
          c.index-files-i.result
          (given_in c.loop-i.walk.types)
          (given_in c.loop-i.walk.messages)
          c.loop-i.walk.kinds
          c.index-wides-i.is
          c.index-files-i.is
          inside
          c.loop-i.invariant.types
          c.loop-i.invariant.messages
          c.loop-i.invariant.kinds)
          c.in_ok-add.ensures.none;
    }
