use Rattle.std.proofs.Common.{codes, take}
use Rattle.std.proofs.lemmas.Result.{err_from_is_err_and}
use Rattle.flame_spec.specs.Paths.{at_key, at_number}
use Rattle.flame_spec.specs.MessageFaults.{apart_faults}
use Rattle.flame_spec.proofs.FaultLists.{FailsFirst-member}
use Rattle.flame_names.specs.PlacePaths.{text_of}
use Rattle.flame_names.proofs.messages.add_constants.Goals as goal

pub returns-in_err-add_apart-clause-first : goal.returns-in_err-add_apart-clause-first
returns-in_err-add_apart-clause-first c =
    let p = err_from_is_err_and c.from_residual.result c.from_residual.ensures.1 in
    let path = text_of c.args.place.now in
    let names = c.args.constants.now in
    rw
    (p.1, p.2)
    (FailsFirst-member
    _
    (λ i name. apart_faults (take i names) (at_key (at_number path i) (codes "name")) name)
    names
    c.loop-i.i
    c.index-constants-i.result
    _
    (apart_faults c.loop-i.earlier (at_key (at_number path c.loop-i.i) (codes "name")) c.as_str.result.now)
    c.loop-i-test.true
    c.loop-i.invariant.rest
    (cc)
    c.in_err-add_apart.ensures.first)
