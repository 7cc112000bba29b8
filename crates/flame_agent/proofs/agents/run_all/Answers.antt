-- One agent after another runs.
use Rattle.std.proofs.Common.{◌<◌, ◌≤◌, ◌^◌, ◌++◌, ◌∷◌, ◌∙◌, [], List, length, take, take_all, sym, ap, subst, arith, length-take}
use Rattle.std.specs.Prelude.{ℤ}
use Rattle.std.proofs.lemmas.List.{take_more}
use Rattle.flame_spec.specs.declared.outcomes.Outcome.{Outcome}
use Rattle.flame_world.specs.Meaning.{outcome_under}
use Rattle.flame_leaving.specs.Leavings.{AreLeft}
use Rattle.flame_agent.proofs.agents.run_all.Goals as goal

pub loop-memory-init : goal.loop-memory-init
loop-memory-init c =
    c.expecting-leaving.ensures c.args.setting.now.iteration c.args.function (outcome_under c.args.setting.now c.args.function)

pub run_next-requires-clause-count : goal.run_next-requires-clause-count
run_next-requires-clause-count c =
    let agents = c.args.agents.now in
    let place = c.loop-memory.memory-index in
    let within : place < length agents = c.loop-memory-test.true in
    let fits : length agents < 2 ^ 64 =
    subst (λ (rows : List (List ℤ)). length rows < 2 ^ 64) c.iter-agents.ensures.rest c.iter-agents.ensures.bound in
    omega (arith, fits, within, c.loop-memory.invariant.ran, length-take place agents)

pub loop-memory-preserved : goal.loop-memory-preserved
loop-memory-preserved c =
    let setting = c.args.setting.now in
    let function = c.args.function in
    let run : List ℤ → Outcome = outcome_under setting function in
    let agents = c.args.agents.now in
    let place = c.loop-memory.memory-index in
    let memory = c.memory-item.result in
    subst (λ (done : List (List ℤ)). AreLeft setting.iteration function run done c.run_next.new.leaving)
    (ap (λ (m : List ℤ). take place agents ++ m ∷ []) c.memory-item.is
    ∙ sym (take_more agents place memory c.loop-memory-test.true))
    (c.in_ok-run_next.ensures (take place agents) c.loop-memory.invariant)

pub returns : goal.returns
returns c =
    let setting = c.args.setting.now in
    let past : length c.args.agents.now ≤ c.loop-memory.memory-index = c.loop-memory-test.false in
    subst
    (λ (done : List (List ℤ)).
    AreLeft setting.iteration c.args.function (outcome_under setting c.args.function) done c.loop-memory.leaving)
    (take_all c.loop-memory.memory-index c.args.agents.now past) c.loop-memory.invariant
