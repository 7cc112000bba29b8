use Rattle.std.proofs.Common.{◌≡◌, ◌++◌, map, length}
use Rattle.std.specs.Vec.Iter.{into_iter_items, into_iter_len}
use Rattle.flame_code_laws.specs.CodeOutcomes.{code_of}
use Rattle.flame_program.proofs.compiling.codes_of.Given as goal

abbrev pub invariant-loop-body : goal.invariant-loop-body
invariant-loop-body l = record {
  counted : into_iter_len l.body-iterator ≡ length (into_iter_items l.body-iterator);
  coded : map code_of l.fn.bodies ≡ l.codes.items ++ map code_of (into_iter_items l.body-iterator);
}
