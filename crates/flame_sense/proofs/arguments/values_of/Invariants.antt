use Rattle.std.proofs.Common.{◌≡◌, drop}
use Rattle.flame_spec.specs.Seen.{expressions}
use Rattle.flame_meaning.specs.Expressions.{values_of}
use Rattle.flame_sense.specs.StandsFor.{scene_seen, progress_seen}
use Rattle.flame_sense.proofs.Rows.{behind_values}
use Rattle.flame_sense.proofs.arguments.values_of.Given as goal

abbrev pub invariant-loop-e : goal.invariant-loop-e
invariant-loop-e l =
    values_of (expressions l.arguments) (scene_seen l.scene l.open_loops) (progress_seen l.s)
    ≡ behind_values l.values.items (values_of (expressions (drop l.e-index l.arguments)) (scene_seen l.scene l.open_loops) (progress_seen l.s))
