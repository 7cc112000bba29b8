-- The names so far, and those of the rest.
use Rattle.std.proofs.Common.{◌≡◌, ◌++◌, drop}
use Rattle.flame_xmml.specs.WideValues.{enabled_files}
use Rattle.flame_xmml.proofs.rows.enabled.Given as goal

abbrev pub invariant-loop-nested : goal.invariant-loop-nested
invariant-loop-nested l = l.names.items ++ enabled_files (drop l.nested-index l.files) ≡ enabled_files l.files
