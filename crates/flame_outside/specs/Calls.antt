-- Calls that are numbered from 0, some of which are made to fail by their number.
use Rattle.std.specs.Prelude.{ℕ, ◌+◌, ◌-◌, ◌^◌, Bool, ◌&&◌, ◌==◌, nat_lt, List, length, if◌then◌else◌}
use Rattle.std.specs.List.{list_any}

-- the numbers of the calls that fail, and how many calls were counted [own]
pub record Calls : Type 0 where
  pub failing : List ℕ
  pub counted : ℕ

-- where the counting stops [own]
abbrev pub last_number : ℕ
last_number = 2 ^ 64 - 1

-- whether the next call fails: its number is listed, and the counting has not stopped [own]
abbrev pub fails_next : Calls → Bool
fails_next calls = nat_lt calls.counted last_number && list_any (λ number. number == calls.counted) calls.failing

-- no call fails, ever [own]
abbrev pub never_fails : Calls → Bool
never_fails calls = length calls.failing == 0

-- one more call was made [own]
abbrev pub counted_on : Calls → Calls
counted_on calls =
    record calls { counted = if nat_lt calls.counted last_number then calls.counted + 1 else calls.counted }
