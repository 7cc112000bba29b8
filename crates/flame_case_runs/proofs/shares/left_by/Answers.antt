use Rattle.std.proofs.Common.{◌≡◌, ◌++◌, ◌∙◌, [], List, rules, sym, ap, w32, SFits, to_z, of_z}
use Rattle.std.specs.Prelude.{ℤ}
use Rattle.std.specs.List.{cons_option, filter_map}
use Rattle.std.proofs.lemmas.Int.{to_z-of_z}
use Rattle.std.proofs.lemmas.List.{take_all}
use Rattle.flame_rows.proofs.Lists.{filter_map-next, flat_map-next}
use Rattle.flame_spec.specs.declared.outcomes.Outcome.{Outcome}
use Rattle.flame_meaning.specs.Outcomes.{outcome}
use Rattle.flame_world.specs.AgentRuns.{born_by, fault_by, kept, sent_by}
use Rattle.flame_world.specs.Meaning.{outcome_under}
use Rattle.flame_world.proofs.NamedBoards.{named_boards_are_enough}
use Rattle.flame_case_runs.proofs.shares.left_by.Goals as goal

pub loop-memory-preserved : goal.loop-memory-preserved
loop-memory-preserved c =
    let setting = c.args.setting.now in
    let function = c.args.function in
    let run : List ℤ → Outcome = outcome_under setting function in
    let agents = c.args.agents.now in
    let place = c.loop-memory.memory-index in
    let memory = c.memory-item.result in
    let within = c.loop-memory-test.true in
    let at = c.memory-item.is in
    let old = c.loop-memory.invariant in
    let left = c.in_ok-add.ensures in
    let fits : SFits w32 setting.iteration = search rules in
    let number : to_z w32 (of_z w32 setting.iteration) ≡ setting.iteration = to_z-of_z w32 setting.iteration fits in
    let is : c.in_ok-outcome.outcome ≡ run memory =
    c.in_ok-outcome.ensures
    ∙ ap (λ (i : ℤ). outcome setting.source.now function memory c.args.boards.now setting.constants.now i setting.fuel) number
    ∙ sym (named_boards_are_enough setting function memory c.args.boards.now c.requires) in
    record {
      keeps =
          left.kept
          ∙ (λ i. old.keeps i ++ cons_option (kept (is i)) [])
          ∙ sym (filter_map-next (λ m. kept (run m)) agents place memory within at);
      sends =
          left.sent
          ∙ (λ i. old.sends i ++ sent_by (is i))
          ∙ sym (flat_map-next (λ m. sent_by (run m)) agents place memory within at);
      bears =
          left.born
          ∙ (λ i. old.bears i ++ born_by (is i))
          ∙ sym (flat_map-next (λ m. born_by (run m)) agents place memory within at);
      faults =
          left.faults
          ∙ (λ i. old.faults i ++ cons_option (fault_by (number i) function memory (is i)) [])
          ∙ sym (filter_map-next (λ m. fault_by setting.iteration function m (run m)) agents place memory within at);
    }

pub returns-clause-kept : goal.returns-clause-kept
returns-clause-kept c =
    let run : List ℤ → Outcome = outcome_under c.args.setting.now c.args.function in
    c.loop-memory.invariant.keeps
    ∙ ap (filter_map (λ m. kept (run m))) (take_all c.loop-memory.memory-index c.args.agents.now c.loop-memory-test.false)

pub returns-clause-faults : goal.returns-clause-faults
returns-clause-faults c =
    let run : List ℤ → Outcome = outcome_under c.args.setting.now c.args.function in
    c.loop-memory.invariant.faults
    ∙ ap (filter_map (λ m. fault_by c.args.setting.now.iteration c.args.function m (run m)))
    (take_all c.loop-memory.memory-index c.args.agents.now c.loop-memory-test.false)
