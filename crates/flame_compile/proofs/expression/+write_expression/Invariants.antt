use Rattle.std.proofs.Common.{◌≡◌, drop, map}
use Rattle.flame_compile.specs.Pieces.{in_order, written}
use Rattle.flame_compile.specs.Emit.{tested, expression, link}
use Rattle.flame_compile.proofs.expression.+write_expression.Given as goal

abbrev pub invariant-write_links-loop-link : goal.invariant-write_links-loop-link
invariant-write_links-loop-link l =
    written (in_order (map link (drop l.link-index l.links))) l.out.items
    ≡ written (in_order (map link l.links)) l.fn.out.items

abbrev pub invariant-write_tested-loop-part : goal.invariant-write_tested-loop-part
invariant-write_tested-loop-part l =
    written (tested l.jump (map expression (drop l.part-index l.parts))) l.out.items
    ≡ written (tested l.jump (map expression l.parts)) l.fn.out.items
