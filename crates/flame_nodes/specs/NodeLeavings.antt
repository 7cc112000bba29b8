-- What the takers of a function left, put together from the shares of their pieces.
use Rattle.std.specs.Prelude.{◌≡◌, ℕ, ℤ, List, [], map, if◌then◌else◌}
use Rattle.flame_rows.specs.Bags.{ascending}
use Rattle.flame_spec.specs.declared.outcomes.Outcome.{Outcome}
use Rattle.flame_spec.specs.declared.outcomes.Sent.{Sent}
use Rattle.flame_spec.specs.Below.{is_in}
use Rattle.flame_meaning.specs.Outcomes.{outputs_at, place_of}
use Rattle.flame_world.specs.declared.pieces.Part.{Part}
use Rattle.flame_world.specs.declared.shares.Share.{Share}
use Rattle.flame_world.specs.AgentRuns.{births_of, born_from, least_fault, messages_of, sent_from, survivors}
use Rattle.flame_world.specs.Meaning.{outcome_under}
use Rattle.flame_world.specs.Shares.{piece_of, setting_of}
use Rattle.flame_nodes.specs.declared.lefts.Left.{Left}

-- ---- messages

-- the messages of a part, each with its type [own]
abbrev pub sent_in : Part → List Sent
sent_in part = map (λ row. record { message = part.message; row = row }) part.rows

-- of messages that were sent those of this type, where it is one of these [own]
abbrev pub sent_among : List ℕ → List Sent → ℕ → List (List ℤ)
sent_among outputs sent message = if is_in message outputs then messages_of sent message else []

-- ---- what is left

-- it is what these agents leave that run the function of these outputs, in whatever order: the bag of those that live on, those
-- of the messages and of the births of each type, and the fault of the least that faulted [FLAME User Manual]
pub record AreLeftBy
    (iteration : ℤ) (function : ℕ) (run : List ℤ → Outcome) (outputs : List ℕ) (agents : List (List ℤ)) (left : Left) :
    Type 0 where
  pub survivors_are : ascending left.survivors.items ≡ survivors run agents
  pub messages_are :
      (message : ℕ)
      → ascending (messages_of left.sent.items message) ≡ ascending (sent_among outputs (sent_from run agents) message)
  pub births_are :
      (agent : ℕ) → ascending (births_of left.born.items agent) ≡ ascending (births_of (born_from run agents) agent)
  pub fault_is : left.fault ≡ least_fault iteration function run (ascending agents)

-- in the share agents run the function of these outputs, in the iteration of this number [own]
pub record IsOfRun
    (iteration : ℤ) (function : ℕ) (run : List ℤ → Outcome) (outputs : List ℕ) (share : Share) :
    Type 0 where
  pub iteration_is : (setting_of share).iteration ≡ iteration
  pub function_is : (piece_of share).function ≡ function
  pub run_is : outcome_under (setting_of share) function ≡ run
  pub outputs_are :
      outputs_at (place_of (setting_of share).source.now function) (setting_of share).source.now.model ≡ outputs
