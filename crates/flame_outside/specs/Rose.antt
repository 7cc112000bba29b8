-- Counts of failures, which never fall.
use Rattle.std.specs.Prelude.{ℕ, ◌<◌, ◌≤◌, ◌-◌, ◌^◌, ◌⊎◌}
use Rattle.std.proofs.Common.{inl, inr, arith}

-- a count went up, or stands at the last number that it can count to [own]
abbrev pub Rose : ℕ → ℕ → Type 0
Rose old new = (old < new) ⊎ (2 ^ 64 - 1 ≤ new)

-- a count that rose in a part of a call rose in the whole call
pub Rose_within : (old before after new : ℕ) → old ≤ before → after ≤ new → Rose before after → Rose old new
Rose_within old before after new first last (inl rose) = inl (omega arith)
Rose_within old before after new first last (inr full) = inr (omega arith)
