use Rattle.std.proofs.Common.{◌≡◌, ◌+◌, drop, map}
use Rattle.flame_compile.specs.Emit.{arms_size, arm, statements}
use Rattle.flame_compile.proofs.block_size.+statement_size.Given as goal

abbrev pub invariant-block_size-loop-statement : goal.invariant-block_size-loop-statement
invariant-block_size-loop-statement l =
    l.size + (statements (drop l.statement-index l.body)).size ≡ (statements l.body).size

abbrev pub invariant-arms_size-loop-arm : goal.invariant-arms_size-loop-arm
invariant-arms_size-loop-arm l =
    l.size + arms_size (map arm (drop l.arm-index l.arms)) ≡ arms_size (map arm l.arms)
