use Rattle.std.proofs.Common.{◌≡◌, drop}
use Rattle.std.specs.Str.{bytes_eq}
use Rattle.flame_spec.specs.Lists.{numbered_where, numbered_from}
use Rattle.flame_sense.proofs.scene.input_of.Given as goal

abbrev pub invariant-loop-number : goal.invariant-loop-number
invariant-loop-number l =
    numbered_where (λ input. bytes_eq input.message l.name) l.inputs
    ≡ numbered_from (λ input. bytes_eq input.message l.name) l.number (drop l.number l.inputs)
