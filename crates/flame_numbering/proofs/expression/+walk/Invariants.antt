use Rattle.std.proofs.Common.{◌≡◌, ◌++◌, drop}
use Rattle.flame_spec.specs.ExpressionFaults.{parts_faults, links_faults}
use Rattle.flame_spec.specs.Seen.{expressions, links}
use Rattle.flame_lookup.specs.Sources.{context_at}
use Rattle.flame_body.specs.NumberedTrees.{numbered_parts, numbered_links}
use Rattle.flame_numbering.specs.WordPlaces.{words_at}
use Rattle.flame_numbering.proofs.expression.+walk.Given as goal

abbrev pub invariant-parts-loop-e : goal.invariant-parts-loop-e
invariant-parts-loop-e l = record {
  clean : parts_faults (context_at l.words) l.spot (expressions l.es)
      ≡ parts_faults (context_at l.words) l.spot (expressions (drop l.e-index l.es));
  stands : numbered_parts (words_at l.words) l.spot (expressions l.es)
      ≡ l.slots.items ++ numbered_parts (words_at l.words) l.spot (expressions (drop l.e-index l.es));
}

abbrev pub invariant-links-loop-link : goal.invariant-links-loop-link
invariant-links-loop-link l = record {
  clean : links_faults (context_at l.words) l.spot (links l.links)
      ≡ links_faults (context_at l.words) l.spot (links (drop l.link-index l.links));
  stands : numbered_links (words_at l.words) l.spot (links l.links)
      ≡ l.slots.items ++ numbered_links (words_at l.words) l.spot (links (drop l.link-index l.links));
}
