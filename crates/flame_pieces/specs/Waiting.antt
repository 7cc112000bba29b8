-- What waits for what.
use Rattle.std.specs.Prelude.{◌≡◌, ℕ, ◌<◌, List, [], ◌∷◌, ◌++◌, length, replicate, slice_index, slice_index_or}
use Rattle.std.specs.Prelude.{slice_set, Bool, true, false, not, ◌||◌, if◌then◌else◌}
use Rattle.std.specs.List.{All, list_all, sum_by}
use Rattle.flame_spec.specs.Below.{is_in, times}
use Rattle.flame_pieces.specs.declared.waits.Awaited as run

-- something that others wait for: these, each as often as it was told, until it is done [own]
pub record Awaited : Type 0 where
  pub waiters : List ℕ
  pub done : Bool

-- what is waited for, and how many there are that may wait, both numbered from 0 [own]
pub record Waiting : Type 0 where
  pub things : List Awaited
  pub count : ℕ

-- the thing of this number; what is not there is done [own]
abbrev pub thing_at : List Awaited → ℕ → Awaited
thing_at things number = slice_index_or things number (record { waiters = []; done = true })

-- the one of this number waits for nothing that is not done [own]
abbrev pub is_free : Waiting → ℕ → Bool
is_free waiting number = list_all (λ thing. thing.done || not (is_in number thing.waiters)) waiting.things

-- ---- how it changes

-- so many things, none of which is done, for which nobody waits of so many that may [own]
abbrev pub unwaited : ℕ → ℕ → Waiting
unwaited things count = record { things = replicate things (record { waiters = []; done = false }); count = count }

-- the one of this number waits for the thing, once more [own]
abbrev pub waited_by : ℕ → Awaited → Awaited
waited_by number thing = record thing { waiters = thing.waiters ++ number ∷ [] }

-- the one of the second number waits for the thing of the first [own]
abbrev pub with_waiter : ℕ → ℕ → Waiting → Waiting
with_waiter thing number waiting =
    record waiting { things = slice_set waiting.things thing (waited_by number (thing_at waiting.things thing)) }

-- the thing is done [own]
abbrev pub finished : Awaited → Awaited
finished thing = record thing { done = true }

-- the thing of this number is done [own]
abbrev pub with_done : ℕ → Waiting → Waiting
with_done thing waiting =
    record waiting { things = slice_set waiting.things thing (finished (thing_at waiting.things thing)) }

-- ---- how it is kept

-- what a thing that is kept is [own]
abbrev pub awaited : run.Awaited → Awaited
awaited thing = record { waiters = thing.waiters.items; done = thing.done }

-- how often the one of this number waits for the thing [own]
abbrev pub open_times : ℕ → Awaited → ℕ
open_times number thing = if thing.done then 0 else times number thing.waiters

-- the counts tell how often each waits, and there is a count for each that does [own]
pub record AreCounts (things : List Awaited) (counts : List ℕ) : Type 0 where
  pub within : All (λ thing. All (λ waiter. waiter < length counts) thing.waiters) things
  pub counted : (number : ℕ) → slice_index counts number ≡ sum_by (open_times number) things
