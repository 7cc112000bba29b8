-- A depot and a sink in memory, and what each call makes of them.
use Rattle.std.specs.Prelude.{ℕ, ◌+◌, ◌/◌, List, [], ◌++◌, length, take, sum_by, Some}
use Rattle.std.specs.FinMap as map
use Rattle.flame_outside.specs.Files.{Files}
use Rattle.flame_outside.specs.Devices.{SeenDepot, SeenSink}
use Rattle.flame_outside.specs.Calls.{Calls, never_fails, counted_on}

-- the first half, rounded down [own]
abbrev pub first_half : List ℕ → List ℕ
first_half bytes = take (length bytes / 2) bytes

-- its files, its calls, and how many of the reads and of the puts among them failed [own]
pub record DepotInMemory : Type 0 where
  pub files : Files
  pub calls : Calls
  pub read_faults : ℕ
  pub put_faults : ℕ

-- what is seen of it: all its files and counts [own]
abbrev pub seen_depot : DepotInMemory → SeenDepot
seen_depot depot = record {
  files = Some depot.files;
  read_faults = depot.read_faults;
  put_faults = depot.put_faults;
  calm = never_fails depot.calls;
}

-- no file and no call so far [own]
abbrev pub new_depot : List ℕ → DepotInMemory
new_depot failing = record {
  files = map.empty;
  calls = record { failing = failing; counted = 0 };
  read_faults = 0;
  put_faults = 0;
}

-- these bytes are the file of that name [own]
abbrev pub depot_with_file : DepotInMemory → List ℕ → List ℕ → DepotInMemory
depot_with_file depot name bytes = record depot { files = map.insert depot.files name bytes }

-- a call was made [own]
abbrev pub after_call : DepotInMemory → DepotInMemory
after_call depot = record depot { calls = counted_on depot.calls }

-- a read was made, and it failed [own]
abbrev pub after_failed_read : DepotInMemory → DepotInMemory
after_failed_read depot = record depot { calls = counted_on depot.calls; read_faults = depot.read_faults + 1 }

-- a put was made [own]
abbrev pub after_put : DepotInMemory → List ℕ → List ℕ → DepotInMemory
after_put depot name bytes = after_call (depot_with_file depot name bytes)

-- a put was made, and it failed: the first half of the bytes is the file [own]
abbrev pub after_failed_put : DepotInMemory → List ℕ → List ℕ → DepotInMemory
after_failed_put depot name bytes = record depot {
  files = map.insert depot.files name (first_half bytes);
  calls = counted_on depot.calls;
  put_faults = depot.put_faults + 1;
}

-- the bytes of all files together [own]
abbrev pub total_of : Files → ℕ
total_of files = sum_by (λ entry. length entry.1) (map.entries files)

-- its bytes, its calls, and how many of them failed [own]
pub record SinkInMemory : Type 0 where
  pub written : List ℕ
  pub calls : Calls
  pub faults : ℕ

-- what is seen of it: all its bytes and the count [own]
abbrev pub seen_sink : SinkInMemory → SeenSink
seen_sink sink = record { written = Some sink.written; faults = sink.faults; calm = never_fails sink.calls }

-- no byte and no call so far [own]
abbrev pub new_sink : List ℕ → SinkInMemory
new_sink failing = record { written = []; calls = record { failing = failing; counted = 0 }; faults = 0 }

-- a write was made [own]
abbrev pub after_write : SinkInMemory → List ℕ → SinkInMemory
after_write sink bytes = record sink { written = sink.written ++ bytes; calls = counted_on sink.calls }

-- a write was made, and it failed: the first half of the bytes was appended [own]
abbrev pub after_failed_write : SinkInMemory → List ℕ → SinkInMemory
after_failed_write sink bytes = record sink {
  written = sink.written ++ first_half bytes;
  calls = counted_on sink.calls;
  faults = sink.faults + 1;
}
