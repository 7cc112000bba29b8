use Rattle.std.proofs.Common.{◌≡◌, ◌++◌, drop}
use Rattle.flame_spec.specs.CallFaults.{arguments_faults}
use Rattle.flame_spec.specs.Seen.{expressions}
use Rattle.flame_lookup.specs.Sources.{context_at}
use Rattle.flame_body.specs.NumberedTrees.{numbered_parts}
use Rattle.flame_numbering.specs.WordPlaces.{words_at}
use Rattle.flame_numbering.proofs.call.arguments.Given as goal

abbrev pub invariant-loop-i : goal.invariant-loop-i
invariant-loop-i l = record {
  clean : arguments_faults (context_at l.words) l.spot l.line l.word l.variables (expressions l.es)
      ≡ arguments_faults (context_at l.words) l.spot l.line l.word (drop l.i l.variables) (expressions (drop l.i l.es));
  stands : numbered_parts (words_at l.words) l.spot (expressions l.es)
      ≡ l.slots.items ++ numbered_parts (words_at l.words) l.spot (expressions (drop l.i l.es));
}
