use Rattle.std.proofs.Common.{◌≡◌, drop}
use Rattle.flame_spec.specs.Lists.{numbered_from}
use Rattle.flame_spec.specs.LookUps.{constant_named}
use Rattle.flame_sense.specs.declared.words.Form.TheVariants.{Capitals}
use Rattle.flame_sense.specs.StandsFor.{is_written}
use Rattle.flame_sense.proofs.scene.Scene.constant_value.Given as goal

abbrev pub invariant-loop-number : goal.invariant-loop-number
invariant-loop-number l =
    constant_named l.names l.word ≡ numbered_from (is_written Capitals l.word) l.number (drop l.number l.names)
