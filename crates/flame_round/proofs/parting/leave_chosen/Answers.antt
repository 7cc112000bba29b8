use Rattle.std.proofs.Common.{◌∙◌, ap, sym, subst, List}
use Rattle.std.specs.Prelude.{ℤ}
use Rattle.flame_spec.specs.States.{state_place}
use Rattle.flame_world.specs.Fields.{changed_pool}
use Rattle.flame_world.specs.Iterations.{staying}
use Rattle.flame_field.proofs.Written.{on_err}
use Rattle.flame_round.specs.Choices.{choice_at}
use Rattle.flame_round.specs.KeptRounds.{HasRoute, round_of}
use Rattle.flame_round.proofs.parting.leave_chosen.Goals as goal

pub leave-takers-requires-clause-pools : goal.leave-takers-requires-clause-pools
leave-takers-requires-clause-pools c =
    subst (λ (pools : List (List (List (List ℤ)))). HasRoute pools c.args.route.now) (sym c.in_ok-choose.ensures.same) c.requires.pools

pub returns-clause-takers : goal.returns-clause-takers
returns-clause-takers c place field there pools =
    c.leave-takers.ensures.takers (round_of c.args.round.now) c.args.function place field c.requires.route there
    (c.in_ok-choose.ensures.dealt c.requires.dealt) (pools ∙ sym c.in_ok-choose.ensures.same)

pub returns-clause-others : goal.returns-clause-others
returns-clause-others c place there =
    c.leave-takers.ensures.others (round_of c.args.round.now) c.args.function place c.requires.route there
    (c.in_ok-choose.ensures.dealt c.requires.dealt)
    ∙ ap (changed_pool place.agent (state_place place.type place.function.current) (staying (round_of c.args.round.now) c.args.function place))
    c.in_ok-choose.ensures.same

pub returns-clause-dealt : goal.returns-clause-dealt
returns-clause-dealt c =
    c.leave-takers.ensures.dealt (choice_at c.args.round.now.program.now.model c.args.round.now.iteration)
    (c.in_ok-choose.ensures.dealt c.requires.dealt)

pub returns-in_err-choose-clause-dealt : goal.returns-in_err-choose-clause-dealt
returns-in_err-choose-clause-dealt c = c.in_err-choose.ensures.dealt c.requires.dealt

pub returns-in_err-choose-clause-unchanged : goal.returns-in_err-choose-clause-unchanged
returns-in_err-choose-clause-unchanged c = on_err c.from_residual.result c.in_err-choose.ensures.same

pub returns-clause-chosen : goal.returns-clause-chosen
returns-clause-chosen c =
    c.leave-takers.ensures.stay_chosen c.args.route.now.agent c.args.route.now.from c.in_ok-choose.ensures.chosen

pub returns-clause-stay_chosen : goal.returns-clause-stay_chosen
returns-clause-stay_chosen c agent state chosen =
    c.leave-takers.ensures.stay_chosen agent state (c.in_ok-choose.ensures.stay_chosen agent state chosen)

pub returns-in_err-choose-clause-stay_chosen : goal.returns-in_err-choose-clause-stay_chosen
returns-in_err-choose-clause-stay_chosen c = c.in_err-choose.ensures.stay_chosen
