use Rattle.std.proofs.Common.{◌≡◌, take}
use Rattle.std.specs.List.{filter_map, flat_map}
use Rattle.flame_world.specs.AgentRuns.{born_by, fault_by, kept, sent_by}
use Rattle.flame_world.specs.Meaning.{outcome_under}
use Rattle.flame_case_runs.proofs.shares.left_by.Given as goal

abbrev pub invariant-loop-memory : goal.invariant-loop-memory
invariant-loop-memory l =
    let run = outcome_under l.setting l.function in
    let done = take l.memory-index l.agents in
    record {
      keeps : l.left.kept.items ≡ filter_map (λ memory. kept (run memory)) done;
      sends : l.left.sent.items ≡ flat_map (λ memory. sent_by (run memory)) done;
      bears : l.left.born.items ≡ flat_map (λ memory. born_by (run memory)) done;
      faults : l.left.faults.items ≡ filter_map (λ memory. fault_by l.setting.iteration l.function memory (run memory)) done;
    }
