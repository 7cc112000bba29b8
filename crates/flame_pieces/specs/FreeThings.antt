-- Who waits for nothing that is not done.
use Rattle.std.specs.Prelude.{◌≡◌, ℕ, ◌<◌, ◌==◌, ◌&&◌, ◌||◌, List, length, Bool, false}
use Rattle.std.specs.List.{All, list_all}
use Rattle.flame_spec.specs.Below.{all_below, is_in}
use Rattle.flame_pieces.specs.Waiting.{Waiting, thing_at, is_free, unwaited, with_waiter, with_done}

-- of so many things it tells which are done, and which of so many wait for which: `waits thing number` [own]
pub record Tells
    (things count : ℕ) (waits : ℕ → ℕ → Bool) (is_done : ℕ → Bool) (waiting : Waiting) :
    Type 0 where
  pub long : length waiting.things ≡ things
  pub many : waiting.count ≡ count
  pub who :
      (thing number : ℕ) → thing < things → is_in number (thing_at waiting.things thing).waiters ≡ waits thing number
  pub which : (thing : ℕ) → thing < things → (thing_at waiting.things thing).done ≡ is_done thing

-- ---- who is free

-- it is free where all are done for which it waits [own]
abbrev pub FreeWhereAllAreDone : Type 0
FreeWhereAllAreDone =
    (things count : ℕ) (waits : ℕ → ℕ → Bool) (is_done : ℕ → Bool) (waiting : Waiting) (number : ℕ)
    → Tells things count waits is_done waiting
    → is_free waiting number ≡ list_all is_done (all_below (λ thing. waits thing number) things)

-- where it waits for these, it is free where all of them are done [own]
abbrev pub FreeWhereTheseAreDone : Type 0
FreeWhereTheseAreDone =
    (things count : ℕ) (waits : ℕ → ℕ → Bool) (is_done : ℕ → Bool) (waiting : Waiting) (number : ℕ) (these : List ℕ)
    → Tells things count waits is_done waiting
    → All (λ thing. thing < things) these
    → ((thing : ℕ) → thing < things → waits thing number ≡ is_in thing these)
    → is_free waiting number ≡ list_all is_done these

-- ---- what is told

-- at first nothing is done, and nobody waits [own]
abbrev pub NothingIsTold : Type 0
NothingIsTold =
    (things count : ℕ) → Tells things count (λ thing number. false) (λ thing. false) (unwaited things count)

-- one more waits for a thing [own]
abbrev pub WaitersAreTold : Type 0
WaitersAreTold =
    (things count : ℕ) (waits : ℕ → ℕ → Bool) (is_done : ℕ → Bool) (waiting : Waiting) (thing number : ℕ)
    → thing < things
    → Tells things count waits is_done waiting
    → Tells things count
    (λ other waiter. waits other waiter || ((other == thing) && (waiter == number)))
    is_done (with_waiter thing number waiting)

-- a thing is done [own]
abbrev pub WhatIsDoneIsTold : Type 0
WhatIsDoneIsTold =
    (things count : ℕ) (waits : ℕ → ℕ → Bool) (is_done : ℕ → Bool) (waiting : Waiting) (thing : ℕ)
    → thing < things
    → Tells things count waits is_done waiting
    → Tells things count waits (λ other. (other == thing) || is_done other) (with_done thing waiting)
