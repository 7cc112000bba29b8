use Rattle.std.proofs.Common.{◌∙◌}
use Rattle.flame_names.specs.PlacePaths.{text_of}
use Rattle.flame_names.proofs.Among.{looked_up}
use Rattle.flame_name_sets.proofs.Among.{was_there, was_new}
use Rattle.flame_names.proofs.Firsts.{fails_first, apart_faults-none, apart_faults-clash}
use Rattle.flame_names.proofs.messages.add_apart.Goals as goal

pub returns-then-not-branch-2-clause-first : goal.returns-then-not-branch-2-clause-first
returns-then-not-branch-2-clause-first c =
    let new = was_new _ _ c.in_ok-add.ensures.added c.if-not-branch.false in
    let there = was_there _ _ c.in_ok-add-2.ensures.added c.if-not-branch-2.true in
    fails_first
    _
    _
    _
    (apart_faults-clash
    c.args.earlier.now
    (text_of c.args.place.now)
    c.args.name.now
    new
    (looked_up _ _ _ c.args.earlier.now c.in_ok-capitals_of.ensures c.requires ∙ there))
    c.fault-then-not-branch-2.ensures

pub returns-clause-none : goal.returns-clause-none
returns-clause-none c =
    let new = was_new _ _ c.in_ok-add.ensures.added c.if-not-branch.false in
    let shouted = was_new _ _ c.in_ok-add-2.ensures.added c.if-not-branch-2.false in
    apart_faults-none
    c.args.earlier.now
    (text_of c.args.place.now)
    c.args.name.now
    new
    (looked_up _ _ _ c.args.earlier.now c.in_ok-capitals_of.ensures c.requires ∙ shouted)
