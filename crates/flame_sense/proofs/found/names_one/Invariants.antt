use Rattle.std.proofs.Common.{◌≡◌, drop}
use Rattle.std.specs.List.{list_any}
use Rattle.std.specs.Str.{bytes_eq}
use Rattle.flame_sense.proofs.found.names_one.Given as goal

abbrev pub invariant-loop-function : goal.invariant-loop-function
invariant-loop-function l =
    list_any (λ function. bytes_eq l.name function.name) l.functions
    ≡ list_any (λ function. bytes_eq l.name function.name) (drop l.function-index l.functions)
