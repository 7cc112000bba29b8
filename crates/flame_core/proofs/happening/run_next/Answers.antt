-- The next agent of a piece runs.
use Rattle.std.proofs.Common.{◌≡◌, ◌∙◌, ◌+◌, ◌<◌, Some, [], length, refl, sym, ap, subst, arith, length-set}
use Rattle.std.specs.Prelude.{slice_index_or, slice_set}
use Rattle.std.proofs.lemmas.Bool.{le-leb}
use Rattle.flame_rows.specs.Bags.{ascending, merge}
use Rattle.flame_world.specs.AgentRuns.{births_of}
use Rattle.flame_world.specs.Fields.{changed_pool, joined}
use Rattle.flame_events.specs.CoreStates.{Status, Open, Core, is_shut, status_of, work_of, works_of}
use Rattle.flame_events.specs.EventSteps.{with_work}
use Rattle.flame_events.specs.LegalEvents.{outputs_of}
use Rattle.flame_events.proofs.Sound.{opens_with}
use Rattle.flame_spec.specs.Below.{HasNoTwice}
use Rattle.flame_progress.specs.KeptCores.{core_of, kept_at}
use Rattle.flame_progress.specs.KeptWorkEvents.{added, are_left}
use Rattle.flame_progress.specs.Tallying.{Came}
use Rattle.flame_field.proofs.Written.{on_err}
use Rattle.flame_progress.proofs.Known.{open_within}
use Rattle.flame_progress.proofs.Tallied.{came, counted_kept, status_kept}
use Rattle.flame_core.specs.NextAgents.{HasNext, IsNext}
use Rattle.flame_field.specs.KeptPools.{AreDealt}
use Rattle.flame_round.specs.Choices.{choice_at}
use Rattle.flame_round.specs.KeptRounds.{round_of}
use Rattle.flame_core.specs.KeptShares.{ArePartsOf}
use Rattle.flame_core.proofs.Comings.{agent_is, fit_outputs, parts_long}
use Rattle.flame_core.proofs.Routed.{outputs_are}
use Rattle.flame_core.proofs.Nexts.{has_next, left_of_it}
use Rattle.flame_core.proofs.Running.{next_wide, running_below}
use Rattle.flame_core.proofs.TakenIn.{began, fed_of}
use Rattle.flame_round.proofs.Stepped.{has-route}
use Rattle.flame_core.proofs.happening.run_next.Goals as goal

pub route_of-route-requires : goal.route_of-route-requires
route_of-route-requires c =
    running_below c.args.round.now.program.now.model c.args.progress.now c.args.counts.now c.args.function c.args.piece
    c.requires.ready.tallies c.requires.legal

pub input_boards-requires-clause-fed : goal.input_boards-requires-clause-fed
input_boards-requires-clause-fed c =
    fed_of c.args.round.now.program.now.model c.args.pieces c.args.progress.now c.requires.ready.fits c.requires.ready.in_order c.args.function

pub input_boards-requires-clause-began : goal.input_boards-requires-clause-began
input_boards-requires-clause-began c =
    let core = core_of c.args.progress.now in
    let next = has_next core c.args.function c.args.piece c.requires.legal in
    began core c.args.function c.args.piece next.is.work next.is.there

pub next_leaving-requires-clause-there : goal.next_leaving-requires-clause-there
next_leaving-requires-clause-there c =
    let kept = c.in_ok-boards.ensures.kept c.args.counts.now c.requires.ready.tallies in
    subst (λ k. HasNext k c.args.function c.args.piece) (sym kept.core)
    (has_next (core_of c.args.progress.now) c.args.function c.args.piece c.requires.legal)

pub next_leaving-requires-clause-fits : goal.next_leaving-requires-clause-fits
next_leaving-requires-clause-fits c = λ memory next.
    let model = c.args.round.now.program.now.model in
    let core = core_of c.args.progress.now in
    let goes = c.route_of-route.ensures in
    let kept = c.in_ok-boards.ensures.kept c.args.counts.now c.requires.ready.tallies in
    let P : Core → Type 0 = λ k. IsNext k c.args.function c.args.piece memory in
    record {
      place = goes.place;
      there = goes.there;
      memories = (
        next_wide model core c.args.function c.args.piece goes.place memory c.requires.ready.fits goes.there
            (subst P kept.core next),
        tt,
      );
      known = c.requires.ready.known;
      wide = c.in_ok-boards.ensures.wide goes.place goes.there c.requires.ready.fits.field.boards;
    }

pub by_outputs-requires : goal.by_outputs-requires
by_outputs-requires c =
    let model = c.args.round.now.program.now.model in
    subst HasNoTwice
    (sym (c.items.ensures ∙ outputs_are model c.args.function c.route_of-route.result.now c.route_of-route.ensures))
    (c.requires.ready.tallies.once c.args.function)

pub settle-requires-clause-left : goal.settle-requires-clause-left
settle-requires-clause-left c =
    let core = core_of c.args.progress.now in
    let f = c.args.function in
    let k = c.args.piece in
    let kept = c.in_ok-boards.ensures.kept c.args.counts.now c.requires.ready.tallies in
    let next = has_next core f k c.requires.legal in
    let P : Core → Type 0 = λ k′. IsNext k′ f k next.memory in
    let left = c.in_ok-leaving.ensures core.field.boards next.memory (subst P (sym kept.core) next.is) c.in_ok-boards.ensures.read in
    let work = next.is.work in
    ap (λ (k′ : Core). are_left c.in_ok-left.left.ran (work_of k′ f k)) kept.core
    ∙ ap (are_left c.in_ok-left.left.ran) next.is.there
    ∙ ap (λ n. are_left n (Some work)) (c.in_ok-left.ensures.ran_is ∙ left.ran)
    ∙ le-leb (work.ran + 1) (length work.agents) (omega (arith, left_of_it core f k next c.requires.legal))

pub settle-requires-clause-known : goal.settle-requires-clause-known
settle-requires-clause-known c =
    let below = running_below c.args.round.now.program.now.model c.args.progress.now c.args.counts.now c.args.function c.args.piece
    c.requires.ready.tallies c.requires.legal in
    let kept = c.in_ok-boards.ensures.kept c.args.counts.now c.requires.ready.tallies in
    omega (arith, below, kept.tallies.functions)

pub settle-requires-clause-parts : goal.settle-requires-clause-parts
settle-requires-clause-parts c =
    let model = c.args.round.now.program.now.model in
    let f = c.args.function in
    let kept = c.in_ok-boards.ensures.kept c.args.counts.now c.requires.ready.tallies in
    let outputs = c.items.ensures ∙ outputs_are model f c.route_of-route.result.now c.route_of-route.ensures in
    fit_outputs (outputs_of model f) (length c.in_ok-left.left.parts.items) (kept_at c.input_boards.new.progress f)
    (parts_long c.items.result.now c.in_ok-leaving.leaving c.in_ok-left.left c.in_ok-left.ensures ∙ ap length outputs)
    (kept.tallies.outputs f)

pub settle-requires-clause-there : goal.settle-requires-clause-there
settle-requires-clause-there c =
    let route = c.route_of-route.result.now in
    let kept = c.in_ok-boards.ensures.kept c.args.counts.now c.requires.ready.tallies in
    let P : Core → Type 0 = λ k. route.to < length (slice_index_or k.field.pools route.agent []) in
    subst P (sym kept.core)
    (has-route c.args.round.now.program.now.model c.args.function route (core_of c.args.progress.now).field
    c.route_of-route.ensures c.requires.ready.fits.field).to

pub returns-clause-ok : goal.returns-clause-ok
returns-clause-ok c =
    let round = round_of c.args.round.now in
    let model = c.args.round.now.program.now.model in
    let core = core_of c.args.progress.now in
    let counts = c.args.counts.now in
    let f = c.args.function in
    let k = c.args.piece in
    let route = c.route_of-route.result.now in
    let goes = c.route_of-route.ensures in
    let leaving = c.in_ok-leaving.leaving in
    let parted = c.in_ok-left.left in
    let kept = c.in_ok-boards.ensures.kept counts c.requires.ready.tallies in
    let same = kept.core in
    let next = has_next core f k c.requires.legal in
    let work = next.is.work in
    let P : Core → Type 0 = λ k′. IsNext k′ f k next.memory in
    let left = c.in_ok-leaving.ensures core.field.boards next.memory (subst P (sym same) next.is) c.in_ok-boards.ensures.read in
    let outputs = c.items.ensures ∙ outputs_are model f route goes in
    let parts : ArePartsOf (outputs_of model f) leaving parted = subst (λ l. ArePartsOf l leaving parted) outputs c.in_ok-left.ensures in
    let made : Core → Core = λ old. record old {
      statuses = with_work old f k (added parted work);
      field = record old.field {
        pools = changed_pool route.agent route.to (λ pool. merge pool (ascending parted.survivors.items)) old.field.pools;
        born = joined (births_of parted.born.items) old.field.born;
      };
    } in
    let is : core_of c.settle.new.self ≡ made core =
    c.in_ok-settle.ensures.ok work (ap (λ (k′ : Core). work_of k′ f k) same ∙ next.is.there)
    ∙ ap made same in
    let open_is = opens_with (status_of core f) k work next.is.there in
    let less = open_within core.statuses f (works_of (status_of core f)) open_is in
    let v : Status = Open (slice_set (works_of (status_of core f)) k (added parted work)) in
    let all = came model c.input_boards.new.progress c.settle.new.self counts counts (made core) is
    (length-set core.statuses f v ∙ ap (λ (k′ : Core). length k′.statuses) (sym same)) (ap (λ (k′ : Core). length k′.frozen) (sym same))
    (λ g has. c.in_ok-settle.ensures.outputs g (outputs_of model g) has) kept.tallies
    (counted_kept model core (made core) counts
    (status_kept is_shut core.statuses f v less (sym (ap is_shut open_is))) refl c.requires.ready.tallies.counted) in
    record {
      core =
          all.core
          ∙ agent_is round c.args.pieces f k goes.place core work next.memory leaving parted route.agent route.to goes.there next.is.there
          next.is.next goes.routed.agent goes.routed.to left parts;
      tallies = all.tallies;
    }

pub returns-in_err-settle-clause-err : goal.returns-in_err-settle-clause-err
returns-in_err-settle-clause-err c =
    let model = c.args.round.now.program.now.model in
    let core = core_of c.args.progress.now in
    let counts = c.args.counts.now in
    let kept = c.in_ok-boards.ensures.kept counts c.requires.ready.tallies in
    let still : Came model core c.settle.new.self counts =
    came model c.input_boards.new.progress c.settle.new.self counts counts core (c.in_err-settle.ensures.err ∙ kept.core)
    (ap (λ (k′ : Core). length k′.statuses) (sym kept.core)) (ap (λ (k′ : Core). length k′.frozen) (sym kept.core))
    (λ g has. c.in_err-settle.ensures.outputs g (outputs_of model g) has) kept.tallies c.requires.ready.tallies.counted in
    on_err c.from_residual-in_err-settle.result still

pub returns-in_err-boards-clause-dealt : goal.returns-in_err-boards-clause-dealt
returns-in_err-boards-clause-dealt c =
    subst (AreDealt (choice_at c.args.round.now.program.now.model c.args.round.now.iteration)) (sym c.in_err-boards.ensures.pools)
    c.requires.ready.dealt

pub returns-in_err-leaving-clause-dealt : goal.returns-in_err-leaving-clause-dealt
returns-in_err-leaving-clause-dealt c =
    subst (AreDealt (choice_at c.args.round.now.program.now.model c.args.round.now.iteration)) (sym c.in_ok-boards.ensures.pools)
    c.requires.ready.dealt

pub returns-in_err-left-clause-dealt : goal.returns-in_err-left-clause-dealt
returns-in_err-left-clause-dealt c =
    subst (AreDealt (choice_at c.args.round.now.program.now.model c.args.round.now.iteration)) (sym c.in_ok-boards.ensures.pools)
    c.requires.ready.dealt

pub returns-in_err-settle-clause-dealt : goal.returns-in_err-settle-clause-dealt
returns-in_err-settle-clause-dealt c =
    c.in_err-settle.ensures.dealt (choice_at c.args.round.now.program.now.model c.args.round.now.iteration)
    (subst (AreDealt (choice_at c.args.round.now.program.now.model c.args.round.now.iteration)) (sym c.in_ok-boards.ensures.pools)
    c.requires.ready.dealt)

pub returns-clause-dealt : goal.returns-clause-dealt
returns-clause-dealt c =
    c.in_ok-settle.ensures.dealt (choice_at c.args.round.now.program.now.model c.args.round.now.iteration)
    (subst (AreDealt (choice_at c.args.round.now.program.now.model c.args.round.now.iteration)) (sym c.in_ok-boards.ensures.pools)
    c.requires.ready.dealt)
