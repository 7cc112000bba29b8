use Rattle.std.proofs.Common.{◌≡◌, ◌<◌, ◌∙◌, [], ap, sym, arith, length, Some}
use Rattle.std.specs.Prelude.{slice_get}
use Rattle.std.proofs.lemmas.List.{length-map}
use Rattle.flame_spec.specs.CheckFaults.{twice_faults}
use Rattle.flame_spec.specs.Definitions.{Definition, definitions}
use Rattle.flame_lookup.specs.WordsFound.{definition_found}
use Rattle.flame_lookup.proofs.Firsts.{seen_as}
use Rattle.flame_check.proofs.Rests.{twice_more, twice_fails}
use Rattle.flame_check.proofs.defining.none_twice.Goals as goal

pub returns-then-is_repeated-clause-first : goal.returns-then-is_repeated-clause-first
returns-then-is_repeated-clause-first c =
    let ds = definitions c.args.tables.now.units in
    let all = c.c_functions-all.result.now in
    let d = definition_found c.index-all-i.result in
    let sized = ap (length {A = Definition}) c.c_functions-all.ensures in
    let within : c.loop-i.i < length ds = omega (arith, c.loop-i-test.true, length-map all definition_found, sized) in
    let there : slice_get ds c.loop-i.i ≡ Some d =
    seen_as definition_found all ds c.loop-i.i c.index-all-i.result c.c_functions-all.ensures within c.index-all-i.is in
    twice_fails ds c.loop-i.i d (twice_faults [] ds) c.fault_at.result there c.loop-i.invariant
    (sym (c.is_repeated.ensures d there) ∙ c.if-is_repeated.true) c.fault_at.ensures

pub loop-i-preserved : goal.loop-i-preserved
loop-i-preserved c =
    let ds = definitions c.args.tables.now.units in
    let all = c.c_functions-all.result.now in
    let d = definition_found c.index-all-i.result in
    let sized = ap (length {A = Definition}) c.c_functions-all.ensures in
    let within : c.loop-i.i < length ds = omega (arith, c.loop-i-test.true, length-map all definition_found, sized) in
    let there : slice_get ds c.loop-i.i ≡ Some d =
    seen_as definition_found all ds c.loop-i.i c.index-all-i.result c.c_functions-all.ensures within c.index-all-i.is in
    twice_more ds c.loop-i.i d (twice_faults [] ds) there c.loop-i.invariant
    (sym (c.is_repeated.ensures d there) ∙ c.if-is_repeated.false)
