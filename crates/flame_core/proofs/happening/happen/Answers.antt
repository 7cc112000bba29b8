-- Every event.
use Rattle.std.proofs.Common.{sym, ap, ◌∙◌, subst}
use Rattle.flame_events.specs.declared.events.Event.{Event}
use Rattle.flame_events.specs.LegalEvents.{is_legal}
use Rattle.flame_events.specs.EventSteps.{after}
use Rattle.flame_progress.specs.KeptCores.{core_of}
use Rattle.flame_progress.specs.Tallying.{Came}
use Rattle.flame_round.specs.Choices.{choice_at}
use Rattle.flame_round.specs.KeptRounds.{round_of}
use Rattle.flame_field.specs.KeptPools.{AreDealt}
use Rattle.flame_field.proofs.Written.{on_err}
use Rattle.flame_core.proofs.Allowed.{can_freeze, can_hand_in, can_shut}
use Rattle.flame_core.proofs.happening.happen.Goals as goal

pub open_function-requires-clause-legal : goal.open_function-requires-clause-legal
open_function-requires-clause-legal c = ap (is_legal c.args.round.now.program.now.model (core_of c.args.progress.now)) (sym c.in-Open.is) ∙ c.requires.legal

pub run_next-requires-clause-legal : goal.run_next-requires-clause-legal
run_next-requires-clause-legal c = ap (is_legal c.args.round.now.program.now.model (core_of c.args.progress.now)) (sym c.in-Agent.is) ∙ c.requires.legal

pub hand_in-requires-clause-known : goal.hand_in-requires-clause-known
hand_in-requires-clause-known c =
    let ready = c.requires.ready in
    (can_hand_in c.args.round.now.program.now.model c.args.progress.now c.args.counts.now ready.tallies c.args.pieces c.in-HandIn.function c.in-HandIn.piece
    c.in-HandIn.message ready.fits ready.in_order (ap (is_legal c.args.round.now.program.now.model (core_of c.args.progress.now)) (sym c.in-HandIn.is) ∙ c.requires.legal)).known

pub hand_in-requires-clause-there : goal.hand_in-requires-clause-there
hand_in-requires-clause-there c =
    let ready = c.requires.ready in
    (can_hand_in c.args.round.now.program.now.model c.args.progress.now c.args.counts.now ready.tallies c.args.pieces c.in-HandIn.function c.in-HandIn.piece
    c.in-HandIn.message ready.fits ready.in_order (ap (is_legal c.args.round.now.program.now.model (core_of c.args.progress.now)) (sym c.in-HandIn.is) ∙ c.requires.legal)).there

pub hand_in-requires-clause-board : goal.hand_in-requires-clause-board
hand_in-requires-clause-board c =
    let ready = c.requires.ready in
    (can_hand_in c.args.round.now.program.now.model c.args.progress.now c.args.counts.now ready.tallies c.args.pieces c.in-HandIn.function c.in-HandIn.piece
    c.in-HandIn.message ready.fits ready.in_order (ap (is_legal c.args.round.now.program.now.model (core_of c.args.progress.now)) (sym c.in-HandIn.is) ∙ c.requires.legal)).board

pub hand_in-requires-clause-gathers : goal.hand_in-requires-clause-gathers
hand_in-requires-clause-gathers c =
    let ready = c.requires.ready in
    (can_hand_in c.args.round.now.program.now.model c.args.progress.now c.args.counts.now ready.tallies c.args.pieces c.in-HandIn.function c.in-HandIn.piece
    c.in-HandIn.message ready.fits ready.in_order (ap (is_legal c.args.round.now.program.now.model (core_of c.args.progress.now)) (sym c.in-HandIn.is) ∙ c.requires.legal)).gathers

pub hand_in-requires-clause-once : goal.hand_in-requires-clause-once
hand_in-requires-clause-once c =
    let ready = c.requires.ready in
    (can_hand_in c.args.round.now.program.now.model c.args.progress.now c.args.counts.now ready.tallies c.args.pieces c.in-HandIn.function c.in-HandIn.piece
    c.in-HandIn.message ready.fits ready.in_order (ap (is_legal c.args.round.now.program.now.model (core_of c.args.progress.now)) (sym c.in-HandIn.is) ∙ c.requires.legal)).once

pub shut-requires-clause-known : goal.shut-requires-clause-known
shut-requires-clause-known c =
    (can_shut c.args.round.now.program.now.model c.args.progress.now c.args.counts.now c.requires.ready.tallies c.in-Shut.function
    (ap (is_legal c.args.round.now.program.now.model (core_of c.args.progress.now)) (sym c.in-Shut.is) ∙ c.requires.legal)).known

pub shut-requires-clause-functions : goal.shut-requires-clause-functions
shut-requires-clause-functions c =
    (can_shut c.args.round.now.program.now.model c.args.progress.now c.args.counts.now c.requires.ready.tallies c.in-Shut.function
    (ap (is_legal c.args.round.now.program.now.model (core_of c.args.progress.now)) (sym c.in-Shut.is) ∙ c.requires.legal)).functions

pub shut-requires-clause-outputs : goal.shut-requires-clause-outputs
shut-requires-clause-outputs c =
    (can_shut c.args.round.now.program.now.model c.args.progress.now c.args.counts.now c.requires.ready.tallies c.in-Shut.function
    (ap (is_legal c.args.round.now.program.now.model (core_of c.args.progress.now)) (sym c.in-Shut.is) ∙ c.requires.legal)).outputs

pub freeze-requires-clause-known : goal.freeze-requires-clause-known
freeze-requires-clause-known c =
    (can_freeze c.args.round.now.program.now.model c.args.progress.now c.args.counts.now c.requires.ready.tallies c.in-Freeze.message
    (ap (is_legal c.args.round.now.program.now.model (core_of c.args.progress.now)) (sym c.in-Freeze.is) ∙ c.requires.legal)).known

pub freeze-requires-clause-inputs : goal.freeze-requires-clause-inputs
freeze-requires-clause-inputs c =
    (can_freeze c.args.round.now.program.now.model c.args.progress.now c.args.counts.now c.requires.ready.tallies c.in-Freeze.message
    (ap (is_legal c.args.round.now.program.now.model (core_of c.args.progress.now)) (sym c.in-Freeze.is) ∙ c.requires.legal)).inputs

pub returns-in_err-hand_in-in-HandIn-clause-err : goal.returns-in_err-hand_in-in-HandIn-clause-err
returns-in_err-hand_in-in-HandIn-clause-err c =
    let model = c.args.round.now.program.now.model in
    let kept : Came model (core_of c.args.progress.now) c.hand_in.new.progress c.args.counts.now =
    c.in_err-hand_in-in-HandIn.ensures.err (round_of c.args.round.now) c.args.counts.now c.requires.ready.tallies in
    on_err c.from_residual-in_err-hand_in-in-HandIn.result kept

pub returns-in_ok-hand_in-in-HandIn-clause-ok : goal.returns-in_ok-hand_in-in-HandIn-clause-ok
returns-in_ok-hand_in-in-HandIn-clause-ok c =
    let model = c.args.round.now.program.now.model in
    let core = core_of c.args.progress.now in
    let round = round_of c.args.round.now in
    let P : Event → Type 0 = λ e. Came model (after round c.args.pieces core e) c.hand_in.new.progress c.args.counts.now in
    let is = c.in-HandIn.is in
    subst P (sym is)
    (c.in_ok-hand_in-in-HandIn.ensures.ok round c.args.pieces c.args.counts.now c.requires.ready.tallies
    (ap (is_legal model core) (sym is) ∙ c.requires.legal))

pub returns-in-Shut-clause-ok : goal.returns-in-Shut-clause-ok
returns-in-Shut-clause-ok c =
    let model = c.args.round.now.program.now.model in
    let core = core_of c.args.progress.now in
    let round = round_of c.args.round.now in
    let P : Event → Type 0 = λ e. Came model (after round c.args.pieces core e) c.shut.new.progress c.shut.new.counts in
    let is = c.in-Shut.is in
    subst P (sym is)
    (c.shut.ensures.came round c.args.pieces c.requires.ready.tallies (ap (is_legal model core) (sym is) ∙ c.requires.legal))

pub returns-in-Freeze-clause-ok : goal.returns-in-Freeze-clause-ok
returns-in-Freeze-clause-ok c =
    let model = c.args.round.now.program.now.model in
    let core = core_of c.args.progress.now in
    let round = round_of c.args.round.now in
    let P : Event → Type 0 = λ e. Came model (after round c.args.pieces core e) c.freeze.new.progress c.freeze.new.counts in
    let is = c.in-Freeze.is in
    subst P (sym is)
    (c.freeze.ensures.came round c.args.pieces c.requires.ready.tallies (ap (is_legal model core) (sym is) ∙ c.requires.legal))

pub returns-in_err-hand_in-in-HandIn-clause-dealt : goal.returns-in_err-hand_in-in-HandIn-clause-dealt
returns-in_err-hand_in-in-HandIn-clause-dealt c =
    subst (AreDealt (choice_at c.args.round.now.program.now.model c.args.round.now.iteration)) (sym c.in_err-hand_in-in-HandIn.ensures.pools)
    c.requires.ready.dealt

pub returns-in_ok-hand_in-in-HandIn-clause-dealt : goal.returns-in_ok-hand_in-in-HandIn-clause-dealt
returns-in_ok-hand_in-in-HandIn-clause-dealt c =
    subst (AreDealt (choice_at c.args.round.now.program.now.model c.args.round.now.iteration)) (sym c.in_ok-hand_in-in-HandIn.ensures.pools)
    c.requires.ready.dealt

pub returns-in-Shut-clause-dealt : goal.returns-in-Shut-clause-dealt
returns-in-Shut-clause-dealt c =
    subst (AreDealt (choice_at c.args.round.now.program.now.model c.args.round.now.iteration)) (sym c.shut.ensures.pools) c.requires.ready.dealt

pub returns-in-Freeze-clause-dealt : goal.returns-in-Freeze-clause-dealt
returns-in-Freeze-clause-dealt c =
    subst (AreDealt (choice_at c.args.round.now.program.now.model c.args.round.now.iteration)) (sym c.freeze.ensures.pools) c.requires.ready.dealt
