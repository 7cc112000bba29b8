use Rattle.std.proofs.Common.{◌≡◌, ◌*◌, ◌++◌, map, string_bytes}
use Rattle.std.specs.List.{range_with_len}
use Rattle.flame_trial.specs.MeadowPopulations.{number_after, drawn_agent, with_commas}
use Rattle.flame_trial.proofs.populations.push_agents.Given as goal

-- the text has the agents before this one, and two draws were made for each of them
abbrev pub invariant-loop-place : goal.invariant-loop-place
invariant-loop-place l =
    record {
      drawn : l.number ≡ number_after l.fn.seed (2 * l.place);
      written :
          string_bytes l.text
          ≡ string_bytes l.fn.text
          ++ with_commas (map (drawn_agent l.fn.seed l.fn.size) (range_with_len 0 l.place));
    }
