-- The tokens so far are those of the types so far.
use Rattle.std.proofs.Common.{◌≡◌, ◌++◌, take}
use Rattle.std.specs.List.{AllZip}
use Rattle.flame_tokens.specs.NumberTrees.{begun}
use Rattle.flame_rows.specs.RowVectors.{rows_of}
use Rattle.flame_tokens.specs.BagTrees.{bag_trees, AreWide}
use Rattle.flame_tokens.proofs.bags.bags_in.Given as goal

abbrev pub invariant-loop-kind : goal.invariant-loop-kind
invariant-loop-kind l = record {
  tokens : l.fn.reader ≡ begun (bag_trees (take l.kind-index l.types) (rows_of l.dealt)) ++ l.reader;
  wide : AllZip AreWide (take l.kind-index l.types) (rows_of l.dealt);
}
