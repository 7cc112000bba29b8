use Rattle.std.proofs.Common.{◌≡◌, [], length, map}
use Rattle.std.specs.Vec.Iter.{into_iter_items, into_iter_len}
use Rattle.flame_world.specs.AgentRuns.{births_of}
use Rattle.flame_world.specs.Fields.{joined}
use Rattle.flame_field.specs.KeptGatherings.{bags_of}
use Rattle.flame_round.proofs.closing.borne.Given as goal

abbrev pub invariant-loop-birth : goal.invariant-loop-birth
invariant-loop-birth l = record {
  counted : into_iter_len l.birth-iterator ≡ length (into_iter_items l.birth-iterator);
  joins : joined (births_of (into_iter_items l.birth-iterator)) (bags_of l.born)
      ≡ joined (births_of l.fn.births.items) (map (λ pools. []) l.types);
}
