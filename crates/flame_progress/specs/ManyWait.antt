-- Many that wait, and many that are waited for.
use Rattle.std.specs.Prelude.{ℕ, List, [], ◌∷◌}
use Rattle.flame_pieces.specs.Waiting.{Waiting, with_waiter}

-- one waits for each of these things [own]
abbrev pub waiting_for : ℕ → List ℕ → Waiting → Waiting
waiting_for waiter [] waiting = waiting
waiting_for waiter (thing ∷ things) waiting = waiting_for waiter things (with_waiter thing waiter waiting)

-- for one thing each of these waits [own]
abbrev pub waited_for_by : ℕ → List ℕ → Waiting → Waiting
waited_for_by thing [] waiting = waiting
waited_for_by thing (waiter ∷ waiters) waiting = waited_for_by thing waiters (with_waiter thing waiter waiting)
