-- The tokens so far are those of the variables so far.
use Rattle.std.proofs.Common.{◌≡◌, ◌++◌, take}
use Rattle.flame_spec.specs.Columns.{width}
use Rattle.flame_tokens.specs.MemberTrees.{keyed, variable_trees, IsWide}
use Rattle.flame_tokens.proofs.memories.values.Given as goal

abbrev pub invariant-loop-variable : goal.invariant-loop-variable
invariant-loop-variable l = record {
  tokens :
      l.fn.reader ≡ keyed (variable_trees (take l.variable-index l.variables) l.row.items) ++ l.reader;
  wide : IsWide (width (take l.variable-index l.variables)) l.row.items;
}
