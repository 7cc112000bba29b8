-- By which numbers proofs tell files, calls, depots and sinks in memory apart: each record as the pairs of its fields.
use Rattle.std.specs.Prelude.{ℕ, List, refl}
use Rattle.std.specs.Coded.{Coded, code_by, coded×, coded_ℕ, coded_list}
use Rattle.std.specs.FinMap as map
use Rattle.flame_outside.specs.Files.{Files}
use Rattle.flame_outside.specs.Calls.{Calls}
use Rattle.flame_outside.specs.Memory.{DepotInMemory, SinkInMemory}

-- the number of a list of bytes [own]
abbrev pub bytes_code : Coded (List ℕ)
bytes_code = coded_list coded_ℕ

-- the number of some files [own]
abbrev pub files_code : Coded Files
files_code = map.code bytes_code bytes_code

-- the number of numbered calls [own]
abbrev pub calls_code : Coded Calls
calls_code =
    code_by (List ℕ × ℕ) (coded× bytes_code coded_ℕ)
    (λ calls. (calls.failing, calls.counted))
    (λ p. record { failing = p.0; counted = p.1 })
    (λ _. refl)

-- the number of a depot in memory [own]
abbrev pub depot_code : Coded DepotInMemory
depot_code =
    code_by ((Files × Calls) × (ℕ × ℕ)) (coded× (coded× files_code calls_code) (coded× coded_ℕ coded_ℕ))
    (λ depot. ((depot.files, depot.calls), (depot.read_faults, depot.put_faults)))
    (λ p. record { files = p.0.0; calls = p.0.1; read_faults = p.1.0; put_faults = p.1.1 })
    (λ _. refl)

-- the number of a sink in memory [own]
abbrev pub sink_code : Coded SinkInMemory
sink_code =
    code_by (List ℕ × (Calls × ℕ)) (coded× bytes_code (coded× calls_code coded_ℕ))
    (λ sink. (sink.written, (sink.calls, sink.faults)))
    (λ p. record { written = p.0; calls = p.1.0; faults = p.1.1 })
    (λ _. refl)
