use Rattle.std.proofs.Common.{◌≡◌, drop, map}
use Rattle.flame_compile.specs.Pieces.{going, written}
use Rattle.flame_compile.specs.Emit.{arms_code, arm, statements}
use Rattle.flame_compile.proofs.statement.+write_statement.Given as goal

abbrev pub invariant-write_block-loop-statement : goal.invariant-write_block-loop-statement
invariant-write_block-loop-statement l =
    written (going l.leave l.again (statements (drop l.statement-index l.body))) l.out.items
    ≡ written (going l.leave l.again (statements l.body)) l.fn.out.items

abbrev pub invariant-write_arms-loop-arm : goal.invariant-write_arms-loop-arm
invariant-write_arms-loop-arm l =
    written (arms_code (map arm (drop l.arm-index l.arms)) l.leave l.again l.end) l.out.items
    ≡ written (arms_code (map arm l.arms) l.leave l.again l.end) l.fn.out.items
