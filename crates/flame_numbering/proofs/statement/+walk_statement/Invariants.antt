use Rattle.std.proofs.Common.{◌≡◌, ◌++◌, drop}
use Rattle.flame_spec.specs.Scopes.{after_all}
use Rattle.flame_spec.specs.Seen.{arms, statements}
use Rattle.flame_spec.specs.StatementFaults.{arms_faults, statements_faults}
use Rattle.flame_lookup.specs.Sources.{context_at}
use Rattle.flame_body.specs.NumberedTrees.{numbered_arms, numbered_statements}
use Rattle.flame_numbering.specs.WordPlaces.{words_at}
use Rattle.flame_numbering.proofs.statement.+walk_statement.Given as goal

abbrev pub invariant-statements-loop-s : goal.invariant-statements-loop-s
invariant-statements-loop-s l = record {
  clean : statements_faults (context_at l.words) l.fn.spot (statements l.body)
      ≡ statements_faults (context_at l.words) l.spot (statements (drop l.s-index l.body));
  stands : numbered_statements (words_at l.words) l.fn.spot (statements l.body)
      ≡ l.slots.items ++ numbered_statements (words_at l.words) l.spot (statements (drop l.s-index l.body));
  seen : after_all l.fn.spot (statements l.body) ≡ after_all l.spot (statements (drop l.s-index l.body));
}

abbrev pub invariant-arms-loop-a : goal.invariant-arms-loop-a
invariant-arms-loop-a l = record {
  clean : arms_faults (context_at l.words) l.fn.spot (arms l.tests)
      ≡ arms_faults (context_at l.words) l.fn.spot (arms (drop l.a-index l.tests));
  stands : numbered_arms (words_at l.words) l.fn.spot (arms l.tests)
      ≡ l.slots.items ++ numbered_arms (words_at l.words) l.fn.spot (arms (drop l.a-index l.tests));
  seen : l.spot ≡ l.fn.spot;
}
