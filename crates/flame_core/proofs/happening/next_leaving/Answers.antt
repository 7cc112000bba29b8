use Rattle.std.proofs.Common.{List, [], ◌∷◌, map, sym, subst}
use Rattle.std.specs.Prelude.{ℤ}
use Rattle.std.proofs.lemmas.Result.{IfOk-weaker}
use Rattle.flame_meaning.specs.Outcomes.{outcome}
use Rattle.flame_index.specs.FrozenBoards.{shared_messages}
use Rattle.flame_leaving.specs.Leavings.{AreLeft}
use Rattle.flame_pieces.specs.KeptWorks.{work_of as kept_work}
use Rattle.flame_progress.specs.KeptCores.{core_of}
use Rattle.flame_round.specs.KeptRounds.{FitsRun}
use Rattle.flame_core.specs.NextAgents.{IsNext}
use Rattle.flame_core.proofs.Nexts.{one_next}
use Rattle.flame_core.proofs.happening.next_leaving.Goals as goal

pub run_over-requires : goal.run_over-requires
run_over-requires c =
    let round = c.args.round.now in
    subst
    (λ (agents : List (List ℤ)).
    FitsRun round.program.now.model c.args.function round.constants.now (map shared_messages c.args.boards.now) agents)
    (sym c.from_ref.ensures.value)
    (c.requires.fits c.in-Some-next.memory.now
    (record { work = kept_work c.in-Some.work.now; there = sym c.in-Some.ensures.work; next = sym c.in-Some-next.ensures }))

pub returns : goal.returns
returns c =
    let round = c.args.round.now in
    let core = core_of c.args.progress.now in
    let own : IsNext core c.args.function c.args.piece c.in-Some-next.memory.now =
    record { work = kept_work c.in-Some.work.now; there = sym c.in-Some.ensures.work; next = sym c.in-Some-next.ensures } in
    IfOk-weaker c.run_over.result _ _
    (λ leaving left all memory next named.
    let Left : List (List ℤ) → Type 0 = λ agents.
    AreLeft round.iteration c.args.function
    (λ m. outcome round.program.now c.args.function m all round.constants.now round.iteration round.fuel) agents leaving in
    subst (λ (m : List ℤ). Left (m ∷ []))
    (one_next core c.args.function c.args.piece c.in-Some-next.memory.now memory own next)
    (subst Left c.from_ref.ensures.value (left all named)))
    c.run_over.ensures
