use Rattle.std.proofs.Common.{◌≡◌, ◌≤◌, length, drop, None}
use Rattle.flame_meaning.specs.Scenes.{local_value}
use Rattle.flame_sense.specs.StandsFor.{visible}
use Rattle.flame_sense.proofs.scene.newest.Given as goal

abbrev pub invariant-loop-at : goal.invariant-loop-at
invariant-loop-at l = record {
  within : l.at ≤ length l.locals;
  newer : local_value l.word (visible (drop l.at l.locals)) ≡ None;
}

abbrev pub decreases-loop-at : goal.decreases-loop-at
decreases-loop-at l = l.at
