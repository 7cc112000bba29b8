-- Runs of codes, and what a code means.
use Rattle.std.specs.Prelude.{◌≡◌, ℕ, ℤ, pos, List, [], ◌∷◌, length, Option, Some, None, slice_get, if◌then◌else◌}
use Rattle.std.specs.Ordering.{int_eq}
use Rattle.flame_spec.specs.declared.faults.Fault.{Fault}
use Rattle.flame_spec.specs.declared.outcomes.Outcome.{Outcome}
use Rattle.flame_spec.specs.declared.outcomes.Outcome.TheVariants.{Ended, Faulted}
use Rattle.flame_code.specs.Feeds.{Fed}
use Rattle.flame_code.specs.InputRows.{rows_of, HaveWidths}
use Rattle.flame_code.specs.Routines.{Routine}
use Rattle.flame_code.specs.Machine.{Given, Config, first_locals, End, returned, faulted, on, over, calls, step}

-- ---- runs

-- a helper begins with its arguments as its first locals, with no memory and no inputs, and with this fuel
-- [C, 6.5.2.2; fuel: own]
abbrev pub entry : List ℤ → ℕ → Config
entry args fuel = record {
  place = 0;
  stack = [];
  locals = first_locals args;
  memory = [];
  sent = [];
  born = [];
  feeds = [];
  fuel = fuel;
}

-- behind a call, with the helper's value on the stack and with the fuel that it left [C, 6.5.2.2; fuel: own]
abbrev pub resumed : ℤ → ℕ → Config → Config
resumed v fuel c = record c { stack = v ∷ c.stack; fuel = fuel }

-- the run of a code from where it stands ends so: its last step is over, a step goes on, or a step calls a helper, which
-- is run before the code goes on or whose fault is the fault of the run [own]
pub data Runs (g : Given) (helpers : List Routine) : Routine → Config → End → Type 0 where
  last : {r : Routine} {c : Config} {e : End} → step g r c ≡ over e → Runs g helpers r c e
  more : {r : Routine} {c d : Config} {e : End} → step g r c ≡ on d → Runs g helpers r d e → Runs g helpers r c e
  back : {r : Routine} {c : Config} {e : End}
      → (h : ℕ) (args : List ℤ) (d : Config) (helper : Routine) (v : ℤ) (left : Config)
      → step g r c ≡ calls h args d
      → slice_get helpers h ≡ Some helper
      → Runs g helpers helper (entry args d.fuel) (returned v left)
      → Runs g helpers r (resumed v left.fuel d) e
      → Runs g helpers r c e
  fall : {r : Routine} {c : Config}
      → (h : ℕ) (args : List ℤ) (d : Config) (helper : Routine) (fault : Fault)
      → step g r c ≡ calls h args d
      → slice_get helpers h ≡ Some helper
      → Runs g helpers helper (entry args d.fuel) (faulted fault)
      → Runs g helpers r c (faulted fault)

-- ---- meanings

-- a code begins with this memory, these inputs and this fuel [own]
abbrev pub begun : List ℤ → List Fed → ℕ → Config
begun memory feeds fuel = record (entry [] fuel) { memory = memory; feeds = feeds }

-- the agent's memory, or none where the function returned another value than 0 [FLAME User Manual]
abbrev pub memory_after : ℤ → List ℤ → Option (List ℤ)
memory_after v memory = if int_eq v (pos 0) then Some memory else None

-- what such an end leaves [FLAME User Manual]
abbrev pub outcome_of : End → Outcome
outcome_of (returned v c) =
    Ended (record { memory = memory_after v c.memory; sent = c.sent; born = c.born; fuel = c.fuel })
outcome_of (faulted fault) = Faulted fault

-- what is put into a run: the memory, the inputs with how many rows have come, the constants, the iteration's number and
-- the fuel [own]
pub record Entry : Type 0 where
  pub memory : List ℤ
  pub feeds : List Fed
  pub constants : List ℤ
  pub iteration : ℤ
  pub fuel : ℕ

-- the entry has the widths that the code sees [own]
pub record FitsEntry (r : Routine) (from : Entry) : Type 0 where
  pub memory : length from.memory ≡ r.widths.memory
  pub constants : length from.constants ≡ r.widths.constants
  pub rows : HaveWidths r.widths.inputs (rows_of from.feeds)

-- the outcome of the code's run from its begin, with these helpers, from this entry [own]
pub record Means (helpers : List Routine) (r : Routine) (from : Entry) (o : Outcome) : Type 0 where
  pub end : End
  pub runs : Runs (record { constants = from.constants; iteration = from.iteration }) helpers r
      (begun from.memory from.feeds from.fuel) end
  pub same : o ≡ outcome_of end
