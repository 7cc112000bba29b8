-- The first of some faults.
use Rattle.std.proofs.Common.{◌≡◌, ℕ, ◌<◌, ◌≤◌, true, false, List, length, Option, Some, None, refl, sym, ap, ◌∙◌, ⊎_elim}
use Rattle.std.specs.Prelude.{is_some, slice_index_or}
use Rattle.std.specs.Option.{option_or}
use Rattle.std.proofs.lemmas.Bool.{cases_lt, false≢true}
use Rattle.flame_world.specs.declared.faults.SimFault.{SimFault}
use Rattle.flame_events.specs.CoreStates.{Status, Waiting, fault_of}
use Rattle.flame_events.proofs.Sound.{past_waiting}

pub faulted_within : (statuses : List Status) (f : ℕ) → is_some (fault_of (slice_index_or statuses f Waiting)) ≡ true → f < length statuses
faulted_within statuses f faulted = ⊎_elim
    (λ (less : f < length statuses). less)
    (λ (over : length statuses ≤ f).
    absurd (false≢true (ap (λ (s : Status). is_some (fault_of s)) (sym (past_waiting statuses f over)) ∙ faulted)))
    (cases_lt f (length statuses))

pub or_here : (one other : Option SimFault) → is_some one ≡ true → option_or one other ≡ one
or_here None other some = absurd (false≢true some)
or_here (Some fault) other some = refl

pub or_later : (one other : Option SimFault) → is_some one ≡ false → option_or one other ≡ other
or_later None other none = refl
or_later (Some fault) other none = absurd (false≢true (sym none))
