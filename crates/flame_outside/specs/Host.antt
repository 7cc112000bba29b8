-- Real files and streams, of which only the counts of failures are told.
use Rattle.std.specs.Prelude.{ℕ, ◌+◌, ◌-◌, ◌^◌, nat_lt, if◌then◌else◌, None, false}
use Rattle.flame_outside.specs.Devices.{SeenDepot, SeenSink}

-- how many reads and how many puts of real files failed [own]
pub record HostFaults : Type 0 where
  pub reads : ℕ
  pub puts : ℕ

-- what is seen of real files: nothing is told of what they hold, and any call may fail [own]
abbrev pub seen_files : HostFaults → SeenDepot
seen_files faults = record { files = None; read_faults = faults.reads; put_faults = faults.puts; calm = false }

-- what is seen of a real stream with so many failures: nothing is told of its bytes, and any write may fail [own]
abbrev pub seen_stream : ℕ → SeenSink
seen_stream faults = record { written = None; faults = faults; calm = false }

-- one more failure, up to the last number of 64 bits [own]
abbrev pub raised : ℕ → ℕ
raised faults = if nat_lt faults (2 ^ 64 - 1) then faults + 1 else faults

-- a read failed [own]
abbrev pub with_failed_read : HostFaults → HostFaults
with_failed_read faults = record faults { reads = raised faults.reads }

-- a put failed [own]
abbrev pub with_failed_put : HostFaults → HostFaults
with_failed_put faults = record faults { puts = raised faults.puts }
