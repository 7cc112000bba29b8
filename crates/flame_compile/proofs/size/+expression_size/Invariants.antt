use Rattle.std.proofs.Common.{◌≡◌, ◌+◌, drop, map}
use Rattle.flame_compile.specs.Pieces.{in_order}
use Rattle.flame_compile.specs.Emit.{tested_size, expression, link}
use Rattle.flame_compile.proofs.size.+expression_size.Given as goal

abbrev pub invariant-links_size-loop-link : goal.invariant-links_size-loop-link
invariant-links_size-loop-link l =
    l.size + (in_order (map link (drop l.link-index l.links))).size ≡ (in_order (map link l.links)).size

abbrev pub invariant-tested_size-loop-part : goal.invariant-tested_size-loop-part
invariant-tested_size-loop-part l =
    l.size + tested_size (map expression (drop l.part-index l.parts)) ≡ tested_size (map expression l.parts)
