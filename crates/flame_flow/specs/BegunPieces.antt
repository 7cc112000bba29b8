-- Which pieces of functions were begun, and which functions have some that were not.
use Rattle.std.specs.Prelude.{◌≡◌, ℕ, ◌<◌, ◌==◌, nat_lt, List, [], ◌∷◌, length, slice_get, slice_index, Bool, true, false, Option, Some, None}
use Rattle.std.specs.Prelude.{if◌then◌else◌}
use Rattle.flame_spec.specs.declared.models.Model.{Model}
use Rattle.flame_spec.specs.Below.{is_in}
use Rattle.flame_spec.specs.ModelOrder.{model_order}
use Rattle.flame_meaning.specs.RangeLaws.{Each}
use Rattle.flame_events.specs.CoreStates.{Work, is_waiting, works_of, Core, status_of, work_of}

-- where pieces are begun in their order, and so many of each function were: the function has one that was not [own]
abbrev pub has_next : List ℕ → Core → Option ℕ → Bool
has_next begun core None = false
has_next begun core (Some function) = nat_lt (slice_index begun function) (length (works_of (status_of core function)))

-- the function of this rank has one [own]
abbrev pub is_due : Model → List ℕ → Core → ℕ → Bool
is_due model begun core rank = has_next begun core (slice_get (model_order model) rank)

-- each is greater than those before it [own]
abbrev pub IsRising : List ℕ → Type 0
IsRising [] = Unit {0}
IsRising (number ∷ numbers) = Each (λ other. number < other) numbers × IsRising numbers

-- these and one more, which stands before the first that is greater; these alone where it is one of them [own]
abbrev pub with_number : ℕ → List ℕ → List ℕ
with_number number [] = number ∷ []
with_number number (other ∷ numbers) =
    if nat_lt number other
    then number ∷ other ∷ numbers
    else (if number == other then other ∷ numbers else other ∷ with_number number numbers)

-- so many pieces of each function were begun: none of one that waits, and each of which an agent ran; and these are the
-- ranks of those that have one which was not, in order [own]
pub record AreMarksOf (model : Model) (begun due : List ℕ) (core : Core) : Type 0 where
  pub rising : IsRising due
  pub due_are : (rank : ℕ) → is_in rank due ≡ is_due model begun core rank
  pub fresh : (function : ℕ) → is_waiting (status_of core function) ≡ true → slice_index begun function ≡ 0
  pub ran :
      (function piece : ℕ) (work : Work)
      → work_of core function piece ≡ Some work
      → 0 < work.ran
      → piece < slice_index begun function
