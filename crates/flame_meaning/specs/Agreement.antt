-- Where a function runs as the check faults see it: what its progress has agrees with what the place sees.
use Rattle.std.specs.Prelude.{◌≡◌, ℕ, ℤ, List, [], ◌∷◌, map, None, Some, IsTrue}
use Rattle.flame_spec.specs.declared.models.MessageType.{MessageType}
use Rattle.flame_spec.specs.Scopes.{Context, Loop, over_message, over_none, Sight, names_seen, messages_at, given_at, is_local, context_for}
use Rattle.flame_meaning.specs.Scenes.{Scene, Local, Progress, Current}
use Rattle.flame_meaning.specs.Outcomes.{message_named}

-- the names of these locals, the newest first [own]
abbrev pub names_of : List Local → List (List ℕ)
names_of locals = map (λ local. local.name) locals

-- the loops that a place is in, and where loops over messages stand, both from the inside: each loop over a message
-- stands at a row of the first message of its name [own]
pub data LoopsStand (messages : List MessageType) : List Loop → List Current → Type 0 where
  no_loops : LoopsStand messages [] []
  plain_loop :
      (loops : List Loop) (open_loops : List Current)
      → LoopsStand messages loops open_loops
      → LoopsStand messages (over_none ∷ loops) open_loops
  message_loop :
      (name : List ℕ) (number : ℕ) (message : MessageType) (row : List ℤ) (loops : List Loop)
      (open_loops : List Current)
      → message_named messages name ≡ Some (number, message)
      → LoopsStand messages loops open_loops
      → LoopsStand messages (over_message name ∷ loops) (record { message = number; row = row } ∷ open_loops)

-- the progress is one at a place that sees this and is checked there: the locals have the names of the scopes laid end
-- to end, to none of which the model gives a meaning; and the loops over messages that are open are those that the
-- place is in [own]
pub record Agrees (at : Context) (sight : Sight) (scene : Scene) (s : Progress) : Type 0 where
  pub there : scene.context ≡ context_for at.model at.helpers at.runs
  pub names : names_of s.locals ≡ names_seen sight
  pub fresh : (word : List ℕ) → IsTrue (is_local sight word) → given_at at word ≡ None
  pub loops : LoopsStand (messages_at at) sight.loops scene.open_loops
