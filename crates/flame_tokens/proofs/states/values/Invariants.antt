-- The tokens so far are those of the constants so far.
use Rattle.std.proofs.Common.{◌≡◌, ◌++◌, take}
use Rattle.flame_tokens.specs.MemberTrees.{keyed}
use Rattle.flame_tokens.specs.PopulationTrees.{constant_trees, AreConstants}
use Rattle.flame_tokens.proofs.states.values.Given as goal

abbrev pub invariant-loop-name : goal.invariant-loop-name
invariant-loop-name l = record {
  tokens : l.fn.reader ≡ keyed (constant_trees (take l.name-index l.names) l.values.items) ++ l.reader;
  constants : AreConstants (take l.name-index l.names) l.values.items;
}
