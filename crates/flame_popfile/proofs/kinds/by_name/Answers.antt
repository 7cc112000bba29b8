use Rattle.std.proofs.Common.{arith, rules, string_bytes}
use Rattle.flame_popfile.proofs.TypeTables.{type_before}
use Rattle.flame_popfile.proofs.kinds.by_name.Goals as goal

pub loop-left-preserved : goal.loop-left-preserved
loop-left-preserved c = record {
  within = omega arith;
  found = λ name.
      type_before c.args.types.now c.loop-left.left c.index-types-left.result (string_bytes c.in_ok-name.name) name
      c.in_ok-kind.kind _ _ (omega arith) (omega arith) c.index-types-left.is (search rules) c.in_ok-kind.ensures
      (c.loop-left.invariant.found name) (c.in_ok-put.ensures name);
}
