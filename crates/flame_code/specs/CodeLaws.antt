-- What holds of meanings of codes.
use Rattle.std.specs.Prelude.{◌≡◌, ℕ, ◌≤◌, List, true, Some, slice_get}
use Rattle.flame_spec.specs.declared.outcomes.Effect.{Effect}
use Rattle.flame_spec.specs.declared.outcomes.Outcome.{Outcome}
use Rattle.flame_spec.specs.declared.outcomes.Outcome.TheVariants.{Ended}
use Rattle.flame_code.specs.HelperCodes.{HelperCodes, AreHelpers, fits}
use Rattle.flame_code.specs.Meanings.{Entry, FitsEntry, Means}
use Rattle.flame_code.specs.Routines.{Routine}
use Rattle.flame_code.specs.Validity.{IsValid}

-- a code has at most one outcome for each entry
abbrev pub MeaningsAreUnique : Type 0
MeaningsAreUnique =
    (helpers : List Routine) (r : Routine) (from : Entry) (o p : Outcome)
    → Means helpers r from o → Means helpers r from p → o ≡ p

-- a valid code, with valid codes of helpers that fit it and an entry that fits it
pub record IsReady (helpers : HelperCodes) (r : Routine) (from : Entry) : Type 0 where
  pub valid : IsValid r
  pub helping : AreHelpers helpers
  pub all_valid : (h : ℕ) (helper : Routine) → slice_get helpers.routines h ≡ Some helper → IsValid helper
  pub fitting : fits helpers r ≡ true
  pub entry : FitsEntry r from

-- such a code has an outcome
abbrev pub ValidCodesHaveMeanings : Type 0
ValidCodesHaveMeanings =
    (helpers : HelperCodes) (r : Routine) (from : Entry)
    → IsReady helpers r from → (o : Outcome) × Means helpers.routines r from o

-- such a code leaves no more fuel than there was
abbrev pub FuelNeverRises : Type 0
FuelNeverRises =
    (helpers : HelperCodes) (r : Routine) (from : Entry) (effect : Effect)
    → IsReady helpers r from → Means helpers.routines r from (Ended effect) → effect.fuel ≤ from.fuel
