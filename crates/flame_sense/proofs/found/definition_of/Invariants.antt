use Rattle.std.proofs.Common.{◌≡◌, drop, find, ◌&&◌}
use Rattle.std.specs.Str.{bytes_eq}
use Rattle.flame_spec.specs.Definitions.{definitions, definitions_of}
use Rattle.flame_spec.specs.Lists.{each_from}
use Rattle.flame_sense.specs.StandsFor.{is_wanted}
use Rattle.flame_sense.proofs.found.definition_of.Given as goal

abbrev pub invariant-loop-file : goal.invariant-loop-file
invariant-loop-file l =
    find (λ d. bytes_eq d.name l.name && is_wanted l.wanted d) (definitions l.units)
    ≡ find (λ d. bytes_eq d.name l.name && is_wanted l.wanted d) (each_from definitions_of l.file (drop l.file l.units))
