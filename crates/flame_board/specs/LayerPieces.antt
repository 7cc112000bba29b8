-- Which parts are due by which lane of a layer.
use Rattle.std.specs.Prelude.{ℕ, ◌%◌, ◌==◌, ◌&&◌, List, [], ◌∷◌, Bool, if◌then◌else◌}
use Rattle.flame_spec.specs.Below.{is_in}
use Rattle.flame_spec.specs.Lists.{each}
use Rattle.flame_board.specs.declared.layers.Due.{Due}
use Rattle.flame_board.specs.declared.layers.Key.{Key}
use Rattle.flame_board.specs.declared.layers.Layer.{Layer}

-- the piece's part for the message [own]
abbrev pub due_from : ℕ → Key → Due
due_from message key = record { function = key.function; number = key.number; message = message }

-- the piece in this place goes to this lane, and its function outputs the message [own]
abbrev pub goes_by : Layer → ℕ → ℕ → ℕ → Key → Bool
goes_by layer message lane place key = (place % layer.lanes == lane) && is_in message key.outputs

-- those of the lane's pieces whose functions output the message, in order [own]
abbrev pub lane_dues : Layer → ℕ → ℕ → List Due
lane_dues layer message lane =
    each (λ place key. if goes_by layer message lane place key then due_from message key ∷ [] else []) layer.pieces
