-- What a task leaves over the boards of a field, from what it leaves over the boards that its function reads.
use Rattle.std.proofs.Common.{◌≡◌, ℕ, ◌<◌, List, length, map, refl, sym, ap, ◌∙◌, subst, arith, cond}
use Rattle.std.specs.Prelude.{ℤ, Some, slice_get}
use Rattle.std.specs.List.{All}
use Rattle.std.proofs.lemmas.List.Elements.{All-get_or}
use Rattle.std.proofs.lemmas.Option.{get_or_from_slice_get, slice_get_within}
use Rattle.flame_rows.specs.Bags.{ascending, weigh}
use Rattle.flame_index.specs.FrozenBoards.{shared_messages}
use Rattle.flame_spec.specs.Below.{HasNoTwice, is_in}
use Rattle.flame_spec.specs.declared.outcomes.Outcome.{Outcome}
use Rattle.flame_spec.specs.declared.outcomes.Source.{Source}
use Rattle.flame_meaning.specs.Outcomes.{outcome, outputs_at, place_of}
use Rattle.flame_world.specs.declared.pieces.Part.{Part}
use Rattle.flame_world.specs.declared.pieces.Rest.{Rest}
use Rattle.flame_world.specs.declared.settings.Setting.{Setting}
use Rattle.flame_world.specs.AgentRuns.{born_from, least_fault, messages_of, sent_from, survivors}
use Rattle.flame_world.specs.Fields.{Field}
use Rattle.flame_world.specs.InputBoards.{boards_named}
use Rattle.flame_world.specs.Iterations.{Round, outcome_in}
use Rattle.flame_world.specs.Meaning.{IsMeaning, outcome_under, part_for}
use Rattle.flame_world.specs.Settings.{boards_of}
use Rattle.flame_world.proofs.NamedBoards.{named_boards_are_enough}
use Rattle.flame_events.specs.LegalEvents.{outputs_of}
use Rattle.flame_round.specs.declared.rounds.Round as run
use Rattle.flame_round.specs.KeptRounds.{round_of}
use Rattle.flame_lanes.specs.declared.tasks.Task.{Task}
use Rattle.flame_lanes.specs.TaskMeanings.{rest_of}
use Rattle.flame_layerrun.specs.declared.openings.Reading.{Reading}
use Rattle.flame_layerrun.specs.LayerTasks.{AreRead, piece_in}
use Rattle.flame_layerrun.specs.LayerWork.{weigh_of_type, weigh_sent}
use Rattle.flame_layerrun.proofs.SentParts.{messages-parts, weigh-parts}

-- the setting of a share, in an iteration, with these boards
pub record IsSettingIn (round : run.Round) (read : List (List (List ℤ))) (setting : Setting) : Type 0 where
  pub source : setting.source.now ≡ round.program.now
  pub constants : setting.constants.now ≡ round.constants.now
  pub boards : boards_of setting ≡ read
  pub iteration : setting.iteration ≡ round.iteration
  pub fuel : setting.fuel ≡ round.fuel

-- the boards that the function reads are those that it names
pub read-named : (round : run.Round) (read : Field) (readings : List Reading) (place : ℕ) (reading : Reading) (function : ℕ)
    → slice_get readings place ≡ Some reading → reading.function ≡ function → AreRead round read readings
    → map shared_messages reading.boards ≡ boards_named (place_of round.program.now function) round.program.now.model read.boards
read-named round read readings place reading function there is all =
    let at = get_or_from_slice_get readings place reading reading there in
    let named = All-get_or
    (λ (r : Reading). map shared_messages r.boards ≡ boards_named (place_of round.program.now r.function) round.program.now.model read.boards)
    readings place reading (slice_get_within readings place reading there) all in
    ap (λ (r : Reading). map shared_messages r.boards) (sym at)
    ∙ named
    ∙ ap (λ (r : Reading). boards_named (place_of round.program.now r.function) round.program.now.model read.boards) at
    ∙ ap (λ f. boards_named (place_of round.program.now f) round.program.now.model read.boards) is

module _ (round : run.Round) (boards : List (List (List ℤ))) (setting : Setting)
    (set : IsSettingIn round boards setting) (task : Task) (rest : Rest) (parts : List Part)
    (meant : IsMeaning setting (piece_in task) rest parts) where
  outputs-same : outputs_at (place_of setting.source.now task.function) setting.source.now.model
      ≡ outputs_of round.program.now.model task.function
  outputs-same = ap (λ (s : Source). outputs_at (place_of s task.function) s.model) set.source

  pub parts-messages : map (λ (part : Part). part.message) parts ≡ outputs_of round.program.now.model task.function
  parts-messages =
      ap (map (λ (part : Part). part.message)) meant.parts_are
      ∙ messages-parts (piece_in task) (sent_from (outcome_under setting task.function) (ascending task.agents))
      (outputs_at (place_of setting.source.now task.function) setting.source.now.model)
      ∙ outputs-same

  module _ (read : Field) (named : boards ≡ boards_named (place_of round.program.now task.function) round.program.now.model read.boards) where
    same-outcome : outcome_under setting task.function ≡ outcome_in (round_of round) task.function read
    same-outcome =
        let there : boards_of setting ≡ boards_named (place_of setting.source.now task.function) setting.source.now.model read.boards =
        set.boards ∙ named ∙ ap (λ (s : Source). boards_named (place_of s task.function) s.model read.boards) (sym set.source) in
        let each : (memory : List ℤ) → outcome_under setting task.function memory ≡ outcome_in (round_of round) task.function read memory =
        λ memory. named_boards_are_enough setting task.function memory read.boards there
        ∙ (λ i. outcome (set.source i) task.function memory read.boards (set.constants i) (set.iteration i) (set.fuel i)) in
        λ i memory. each memory i

    pub rest-is : rest ≡ rest_of (round_of round) read task
    rest-is = λ i. record {
      survivors = (meant.survivors_are ∙ ap (λ (g : List ℤ → Outcome). survivors g (ascending task.agents)) same-outcome) i;
      born = (meant.births_are ∙ ap (λ (g : List ℤ → Outcome). born_from g (ascending task.agents)) same-outcome) i;
      fault = (meant.fault_is
          ∙ (λ k. least_fault (set.iteration k) task.function (same-outcome k) (ascending task.agents))) i;
    }

    pub parts-weigh : HasNoTwice (outputs_of round.program.now.model task.function)
        → (message : ℕ) (weight : List ℤ → ℕ)
        → weigh_of_type parts message weight ≡ weigh_sent (round_of round) read message weight task
    parts-weigh once message weight =
        let sent : parts ≡ map (part_for (piece_in task) (sent_from (outcome_in (round_of round) task.function read) (ascending task.agents))) (outputs_of round.program.now.model task.function) =
        meant.parts_are
        ∙ (λ i. map (part_for (piece_in task) (sent_from (same-outcome i) (ascending task.agents))) (outputs-same i)) in
        ap (λ (ps : List Part). weigh_of_type ps message weight) sent
        ∙ weigh-parts (piece_in task) (sent_from (outcome_in (round_of round) task.function read) (ascending task.agents))
        message weight (outputs_of round.program.now.model task.function) once
