use Rattle.std.proofs.Common.{◌≡◌, drop, find, ◌&&◌}
use Rattle.std.specs.Str.{bytes_eq}
use Rattle.flame_spec.specs.Definitions.{definition}
use Rattle.flame_sense.specs.StandsFor.{is_wanted}
use Rattle.flame_sense.proofs.found.definition_in.Given as goal

abbrev pub invariant-loop-def : goal.invariant-loop-def
invariant-loop-def l =
    find (λ def. bytes_eq def.name l.name && is_wanted l.wanted (definition 0 def)) l.defs
    ≡ find (λ def. bytes_eq def.name l.name && is_wanted l.wanted (definition 0 def)) (drop l.def-index l.defs)
