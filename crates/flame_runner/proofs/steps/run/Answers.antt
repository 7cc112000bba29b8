use Rattle.std.proofs.Common.{◌∙◌, ap, map, subst, sym, List}
use Rattle.std.specs.Prelude.{ℤ}
use Rattle.std.proofs.lemmas.Result.{IfOk-weaker}
use Rattle.flame_index.specs.FrozenBoards.{shared_messages}
use Rattle.flame_round.specs.KeptRounds.{FitsRun}
use Rattle.flame_runner.proofs.steps.run.Goals as goal

pub run_over-requires : goal.run_over-requires
run_over-requires c =
    let round = c.args.round.now in
    subst
    (λ (lists : List (List (List ℤ))). FitsRun round.program.now.model c.args.function round.constants.now lists c.args.takers.now)
    (sym (ap (map shared_messages) c.of-boards.ensures)) c.requires.fits

pub returns : goal.returns
returns c =
    IfOk-weaker c.run_over.result _ _
    (λ leaving left all named. left all (ap (map shared_messages) c.of-boards.ensures ∙ named))
    c.run_over.ensures
