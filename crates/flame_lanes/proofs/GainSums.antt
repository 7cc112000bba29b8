-- What some agents and further ones leave besides messages.
use Rattle.std.proofs.Common.{◌≡◌, ℕ, List, [], ◌++◌, refl, sym, ap, ◌∙◌}
use Rattle.std.specs.Prelude.{ℤ}
use Rattle.std.specs.List.{filter_map}
use Rattle.flame_rows.specs.Bags.{ascending, merge}
use Rattle.flame_rows.proofs.Merging.{ascending-append, ascending-append_merge}
use Rattle.flame_spec.specs.declared.outcomes.Born.{Born}
use Rattle.flame_spec.specs.declared.outcomes.Outcome.{Outcome}
use Rattle.flame_world.specs.AgentRuns.{kept, born_from, births_of}
use Rattle.flame_world.specs.declared.pieces.Rest.{Rest}
use Rattle.flame_world.specs.Fields.{Field}
use Rattle.flame_world.specs.Iterations.{Round, outcome_in}
use Rattle.flame_world.proofs.JoinedBags.{births_of-append}
use Rattle.flame_leaving.specs.WholeLaws.{SurvivorsMerge, BirthsMerge, FaultIsTheLeast, least_of}
use Rattle.flame_field.proofs.Gathered.{merge-none}
use Rattle.flame_lanes.specs.declared.gains.Gain.{Gain}
use Rattle.flame_lanes.specs.declared.tasks.Task.{Task}
use Rattle.flame_lanes.specs.LayerGains.{IsGain, IsRestOf}
use Rattle.flame_lanes.specs.TaskMeanings.{rest_of}

abbrev Rows : Type 0
Rows = List (List ℤ)

module _ (survive : SurvivorsMerge) (bear : BirthsMerge) where
  pub gain-more : FaultIsTheLeast
      → (iteration : ℤ) (function : ℕ) (run : List ℤ → Outcome) (agents more : Rows) (old new : Gain) (rest : Rest)
      → IsGain iteration function run agents old
      → IsRestOf iteration function run more rest
      → new.survivors.items ≡ old.survivors.items ++ rest.survivors
      → new.born.items ≡ old.born.items ++ rest.born
      → new.fault ≡ least_of old.fault rest.fault
      → IsGain iteration function run (agents ++ more) new
  gain-more least iteration function run agents more old new rest before further survivors_more born_more fault_more = record {
    survivors_are =
        ap ascending survivors_more
        ∙ ascending-append old.survivors.items rest.survivors
        ∙ (λ i. merge (before.survivors_are i) (further.survivors_are i))
        ∙ sym (survive run agents more (agents ++ more) refl);
    births_are = λ agent.
        ap (λ (born : List Born). ascending (births_of born agent)) born_more
        ∙ ap ascending (births_of-append agent old.born.items rest.born)
        ∙ ascending-append_merge (births_of old.born.items agent) (births_of rest.born agent)
        ∙ (λ i. merge (before.births_are agent i) (further.births_are agent i))
        ∙ sym (bear run agent agents more (agents ++ more) refl);
    fault_is =
        fault_more
        ∙ (λ i. least_of (before.fault_is i) (further.fault_is i))
        ∙ sym (least iteration function run agents more (agents ++ more) refl);
  }

  -- what the agents of a task leave, which run in content order
  pub rest-is : (round : Round) (read : Field) (task : Task)
      → IsRestOf round.iteration task.function (outcome_in round task.function read) task.agents (rest_of round read task)
  rest-is round read task =
      let run = outcome_in round task.function read in
      let agents = task.agents in record {
        survivors_are =
            sym (survive run (ascending agents) [] agents (merge-none agents) ∙ merge-none (filter_map (λ memory. kept (run memory)) (ascending agents)));
        births_are = λ agent.
            sym (bear run agent (ascending agents) [] agents (merge-none agents)
            ∙ merge-none (births_of (born_from run (ascending agents)) agent));
        fault_is = refl;
      }
