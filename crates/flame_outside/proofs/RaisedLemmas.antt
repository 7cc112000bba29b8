-- A raised count rose, and did not fall.
use Rattle.std.proofs.Common.{◌≡◌, ℕ, ◌+◌, ◌-◌, ◌≤◌, ◌^◌, [], true, false, cond, refl, sym, inl, inr, arith, ⊎_elim, true≢false}
use Rattle.std.specs.Prelude.{nat_lt, ◌⊎◌, IsTrue}
use Rattle.flame_outside.specs.Rose.{Rose}
use Rattle.flame_outside.specs.Frames.{StaysCalm, OnlyReads, OnlyPuts, Grows}
use Rattle.flame_outside.specs.Host.{HostFaults, seen_files, seen_stream, raised, with_failed_read, with_failed_put}

-- it went up, or stood at the last number
raised_cases : (faults : ℕ) → (raised faults ≡ faults + 1) ⊎ ((2 ^ 64 - 1 ≤ faults) × (raised faults ≡ faults))
raised_cases faults =
    elim (nat_lt faults (2 ^ 64 - 1)) as
    (λ b. nat_lt faults (2 ^ 64 - 1) ≡ b
    → (cond b (faults + 1) faults ≡ faults + 1)
    ⊎ ((2 ^ 64 - 1 ≤ faults) × (cond b (faults + 1) faults ≡ faults))) [
      | true ↦ λ below. inl refl
      | false ↦ λ not_below. inr (grind arith, refl)
    ] refl

pub Rose-raised : (old new : ℕ) → new ≡ raised old → Rose old new
Rose-raised old new is =
    ⊎_elim (λ up. inl (omega (arith, up, is))) (λ full. inr (omega (arith, full.0, full.1, is))) (raised_cases old)

pub le-raised : (faults : ℕ) → faults ≤ raised faults
le-raised faults = ⊎_elim (λ up. omega (arith, up)) (λ full. omega (arith, full.1)) (raised_cases faults)

-- real devices are never calm
never_calm : {P : Type 0} → IsTrue false → P
never_calm calm = absurd (true≢false (sym calm))

calm_files : (old new : HostFaults) → StaysCalm (seen_files old) (seen_files new)
calm_files old new = record { stays = never_calm; reads = never_calm; puts = never_calm }

pub reads_raised : (old : HostFaults) → OnlyReads (seen_files old) (seen_files (with_failed_read old))
reads_raised old = record {
  files = refl;
  puts = refl;
  reads = le-raised old.reads;
  calm = calm_files old (with_failed_read old);
}

pub puts_raised : (old : HostFaults) → OnlyPuts (seen_files old) (seen_files (with_failed_put old))
puts_raised old = record { reads = refl; puts = le-raised old.puts; calm = calm_files old (with_failed_put old) }

pub grows_raised : (old : ℕ) → Grows (seen_stream old) (seen_stream (raised old))
grows_raised old = record {
  bytes = [];
  printed = refl;
  faults = le-raised old;
  stays_calm = never_calm;
  calm_faults = never_calm;
}
