-- What was added so far and what the values left have are the bytes of all values, and there is room for 2^64 for each.
use Rattle.std.proofs.Common.{◌≡◌, ◌+◌, ◌*◌, ◌^◌, ◌≤◌, length, ℕ}
use Rattle.std.specs.Prelude.{sum_by, Vec}
use Rattle.std.specs.declared.alloc.Global.{Global}
use Rattle.flame_outside.specs.Memory.{total_of}
use Rattle.flame_outside.proofs.named_files.NamedFiles.total.Given as goal

abbrev pub invariant-loop-bytes : goal.invariant-loop-bytes
invariant-loop-bytes l =
    (l.total + sum_by (λ (bytes : Vec ℕ Global). length bytes.items) l.bytes-iterator ≡ total_of l.self)
    × (l.total + length l.bytes-iterator * 2 ^ 64 ≤ 2 ^ 127)
