use Rattle.std.proofs.Common.{◌≡◌, drop}
use Rattle.std.specs.Prelude.{max}
use Rattle.flame_code.specs.Routines.{locals_of}
use Rattle.flame_code.proofs.codes.locals_in.Given as goal

abbrev pub invariant-loop-instr : goal.invariant-loop-instr
invariant-loop-instr l = max l.most (locals_of (drop l.instr-index l.instrs)) ≡ locals_of l.instrs
